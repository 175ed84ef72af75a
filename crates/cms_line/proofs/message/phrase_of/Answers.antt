-- Each message is its text with its words in their places.
use Rattle.std.proofs.Common.{ap, sym}
use Rattle.cms_line.specs.Messages.{message_text}
use Rattle.cms_line.specs.Phrases.{filled, text_of}
use Rattle.cms_line.proofs.message.phrase_of.Goals as goal

pub returns-in-M001 : goal.returns-in-M001
unfolding message_text text_of filled
returns-in-M001 c = sym (ap message_text c.in-M001.is)

pub returns-in-M002 : goal.returns-in-M002
unfolding message_text text_of filled
returns-in-M002 c = sym (ap message_text c.in-M002.is)

pub returns-in-M003 : goal.returns-in-M003
unfolding message_text text_of filled
returns-in-M003 c = sym (ap message_text c.in-M003.is)

pub returns-in-M010 : goal.returns-in-M010
unfolding message_text text_of filled
returns-in-M010 c = sym (ap message_text c.in-M010.is)

pub returns-in-M011 : goal.returns-in-M011
unfolding message_text text_of filled
returns-in-M011 c = sym (ap message_text c.in-M011.is)

pub returns-in-M024 : goal.returns-in-M024
unfolding message_text text_of filled
returns-in-M024 c = sym (ap message_text c.in-M024.is)

pub returns-in-M029 : goal.returns-in-M029
unfolding message_text text_of filled
returns-in-M029 c = sym (ap message_text c.in-M029.is)

pub returns-in-M037 : goal.returns-in-M037
unfolding message_text text_of filled
returns-in-M037 c = sym (ap message_text c.in-M037.is)

pub returns-in-M048 : goal.returns-in-M048
unfolding message_text text_of filled
returns-in-M048 c = sym (ap message_text c.in-M048.is)

pub returns-in-M054 : goal.returns-in-M054
unfolding message_text text_of filled
returns-in-M054 c = sym (ap message_text c.in-M054.is)

pub returns-in-M062 : goal.returns-in-M062
unfolding message_text text_of filled
returns-in-M062 c = sym (ap message_text c.in-M062.is)

pub returns-in-M069 : goal.returns-in-M069
unfolding message_text text_of filled
returns-in-M069 c = sym (ap message_text c.in-M069.is)

pub returns-in-M070 : goal.returns-in-M070
unfolding message_text text_of filled
returns-in-M070 c = sym (ap message_text c.in-M070.is)

pub returns-in-M085 : goal.returns-in-M085
unfolding message_text text_of filled
returns-in-M085 c = sym (ap message_text c.in-M085.is)

pub returns-in-M086 : goal.returns-in-M086
unfolding message_text text_of filled
returns-in-M086 c = sym (ap message_text c.in-M086.is)

pub returns-in-M105 : goal.returns-in-M105
unfolding message_text text_of filled
returns-in-M105 c = sym (ap message_text c.in-M105.is)

pub returns-in-M106 : goal.returns-in-M106
unfolding message_text text_of filled
returns-in-M106 c = sym (ap message_text c.in-M106.is)

pub returns-in-M107 : goal.returns-in-M107
unfolding message_text text_of filled
returns-in-M107 c = sym (ap message_text c.in-M107.is)

pub returns-in-M112 : goal.returns-in-M112
unfolding message_text text_of filled
returns-in-M112 c = sym (ap message_text c.in-M112.is)

pub returns-in-M113 : goal.returns-in-M113
unfolding message_text text_of filled
returns-in-M113 c = sym (ap message_text c.in-M113.is)

pub returns-in-M114 : goal.returns-in-M114
unfolding message_text text_of filled
returns-in-M114 c = sym (ap message_text c.in-M114.is)

pub returns-in-M115 : goal.returns-in-M115
unfolding message_text text_of filled
returns-in-M115 c = sym (ap message_text c.in-M115.is)

pub returns-in-M120 : goal.returns-in-M120
unfolding message_text text_of filled
returns-in-M120 c = sym (ap message_text c.in-M120.is)

pub returns-in-M121 : goal.returns-in-M121
unfolding message_text text_of filled
returns-in-M121 c = sym (ap message_text c.in-M121.is)

pub returns-in-M122 : goal.returns-in-M122
unfolding message_text text_of filled
returns-in-M122 c = sym (ap message_text c.in-M122.is)

pub returns-in-M123 : goal.returns-in-M123
unfolding message_text text_of filled
returns-in-M123 c = sym (ap message_text c.in-M123.is)

pub returns-in-M124 : goal.returns-in-M124
unfolding message_text text_of filled
returns-in-M124 c = sym (ap message_text c.in-M124.is)

pub returns-in-M125 : goal.returns-in-M125
unfolding message_text text_of filled
returns-in-M125 c = sym (ap message_text c.in-M125.is)

pub returns-in-M603 : goal.returns-in-M603
unfolding message_text text_of filled
returns-in-M603 c = sym (ap message_text c.in-M603.is)

pub returns-in-M605 : goal.returns-in-M605
unfolding message_text text_of filled
returns-in-M605 c = sym (ap message_text c.in-M605.is)

pub returns-in-M723 : goal.returns-in-M723
unfolding message_text text_of filled
returns-in-M723 c = sym (ap message_text c.in-M723.is)

pub returns-in-M733 : goal.returns-in-M733
unfolding message_text text_of filled
returns-in-M733 c = sym (ap message_text c.in-M733.is)

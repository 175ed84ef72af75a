use Rattle.std.proofs.Common.{◌∙◌, rules}
use Rattle.cms_text.proofs.Numerals.{no_word, with_minus, with_plus, without_sign}
use Rattle.cms_text.proofs.numbers.number.Goals as goal

pub returns-in-empty : goal.returns-in-empty
returns-in-empty c = no_word c.args.word.now (search rules)

pub returns-in-96 : goal.returns-in-96
returns-in-96 c = c.negative.ensures ∙ with_minus c.args.word.now (search rules) (search rules)

pub returns-in-78 : goal.returns-in-78
returns-in-78 c = c.positive.ensures ∙ with_plus c.args.word.now (search rules) (search rules)

pub returns-in_default : goal.returns-in_default
returns-in_default c = c.positive-in_default.ensures ∙ without_sign c.args.word.now (search rules) (search rules) (search rules)

use Rattle.std.proofs.Common.{◌∙◌}
use Rattle.cms_operands.proofs.Gotten.{text_there, no_text}
use Rattle.cms_operands.proofs.options.text_at.Goals as goal

pub returns-in-Some : goal.returns-in-Some
returns-in-Some c = c.bytes.ensures.bytes ∙ text_there c.args.words.now c.args.place c.in-Some.word.now c.in-Some.ensures.lookup.0 c.in-Some.ensures.lookup.1

pub returns-in-None : goal.returns-in-None
returns-in-None c = no_text c.args.words.now c.args.place c.in-None.ensures.lookup.0

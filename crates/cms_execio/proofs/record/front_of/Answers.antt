use Rattle.std.proofs.Common.{◌∙◌, ap, take}
use Rattle.std.proofs.lemmas.List.{take_min}
use Rattle.cms_text.specs.Limits.{longest_text}
use Rattle.cms_execio.proofs.record.front_of.Goals as goal

pub returns-clause-text : goal.returns-clause-text
returns-clause-text c = ap (λ n. take n c.args.text.now) c.min.ensures ∙ take_min longest_text c.args.text.now

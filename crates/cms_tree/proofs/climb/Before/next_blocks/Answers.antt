use Rattle.std.proofs.Common.{◌∙◌}
use Rattle.cms_tree.proofs.Sums.{div_ceil_is}
use Rattle.cms_tree.proofs.climb.Before.next_blocks.Goals as goal

pub returns-else-self-eq0-clause-some : goal.returns-else-self-eq0-clause-some
returns-else-self-eq0-clause-some c = λ some. c.div_ceil.ensures ∙ div_ceil_is c.args.self.now.count c.args.fan c.requires

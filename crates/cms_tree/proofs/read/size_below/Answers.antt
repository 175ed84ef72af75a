use Rattle.std.proofs.Common.{arith}
use Rattle.cms_tree.proofs.Sums.{power_below}
use Rattle.cms_tree.proofs.read.size_below.Goals as goal

pub pow-requires : goal.pow-requires
pow-requires c = rw (c.from.ensures, c.from-2.ensures) (omega (arith, power_below c.args.fan c.args.levels c.requires.some))

use Rattle.std.proofs.Common.{length}
use Rattle.cms_tree.proofs.climb.+rise.Given as goal

abbrev pub decreases-rise : goal.decreases-rise
decreases-rise g l = length l.levels.now

use Rattle.std.proofs.Common.{length}
use Rattle.cms_tree.proofs.climb.+resume_levels.Given as goal

abbrev pub decreases-resume_levels : goal.decreases-resume_levels
decreases-resume_levels g l = length l.levels.now

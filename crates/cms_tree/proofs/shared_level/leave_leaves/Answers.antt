use Rattle.std.proofs.Common.{arith}
use Rattle.cms_tree.proofs.LevelsBuilt.{up_one}
use Rattle.cms_tree.proofs.shared_level.leave_leaves.Goals as goal

pub leave_level-requires-clause-tier : goal.leave_level-requires-clause-tier
leave_level-requires-clause-tier c = rw c.data_level-level.ensures (rw (up_one _) (omega arith))

pub returns-clause-appended : goal.returns-clause-appended
returns-clause-appended c = rw c.data_level-level.ensures at c.leave_level.ensures.appended

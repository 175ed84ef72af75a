use Rattle.std.proofs.Common.{arith}
use Rattle.cms_tree.proofs.LevelsBuilt.{up_one}
use Rattle.cms_tree.proofs.shared_level.keep_leaves.Goals as goal

pub number_level-taken-requires-clause-olds : goal.number_level-taken-requires-clause-olds
number_level-taken-requires-clause-olds c = rw c.data_level-level.ensures (λ is. rw (up_one _) (omega arith))

pub number_level-taken-requires-clause-fresh : goal.number_level-taken-requires-clause-fresh
number_level-taken-requires-clause-fresh c = rw c.data_level-level.ensures (rw (up_one c.args.count) c.requires.fresh)

pub number_level-taken-requires-clause-room : goal.number_level-taken-requires-clause-room
number_level-taken-requires-clause-room c = rw c.data_level-level.ensures (rw (up_one c.args.count) c.requires.room)

pub returns-clause-appended : goal.returns-clause-appended
returns-clause-appended c = rw (c.data_level-level.ensures, up_one c.args.count) at c.number_level-taken.ensures.appended

pub returns-clause-len : goal.returns-clause-len
returns-clause-len c = rw (c.data_level-level.ensures, up_one c.args.count) at c.number_level-taken.ensures.len

use Rattle.std.proofs.Common.{◌-◌, ◌<◌}
use Rattle.cms_tree.proofs.Sums.{Counted}
use Rattle.cms_tree.proofs.sizes.shape.Given as goal

abbrev pub invariant-loop-room : goal.invariant-loop-room
invariant-loop-room l = record {
  counted : Counted l.fan l.leaves l.room l.levels l.pointers;
  some : 0 < l.room;
}

abbrev pub decreases-loop-room : goal.decreases-loop-room
decreases-loop-room l = l.leaves - l.room

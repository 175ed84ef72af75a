use Rattle.std.proofs.Common.{◌-◌}
use Rattle.cms_edf.proofs.NextMade.{IsUpTo}
use Rattle.cms_edf.proofs.allotment.blocks_with.Given as goal

abbrev pub invariant-loop-next : goal.invariant-loop-next
invariant-loop-next l = IsUpTo l.made l.each l.count l.next l.blocks.items

abbrev pub decreases-loop-next : goal.decreases-loop-next
decreases-loop-next l = l.count - l.next

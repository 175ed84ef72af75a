use Rattle.std.proofs.Common.{take}
use Rattle.cms_edf.specs.Allotments.{IsNextMade}
use Rattle.cms_edf.proofs.allotment.next_made.Given as goal

abbrev pub invariant-loop-number : goal.invariant-loop-number
invariant-loop-number l = IsNextMade (take l.number-index l.made) l.each l.from l.count l.next

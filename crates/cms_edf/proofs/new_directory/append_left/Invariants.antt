use Rattle.std.proofs.Common.{◌≡◌, ◌++◌, take}
use Rattle.cms_edf.proofs.LeftLeaves.{at_places}
use Rattle.cms_edf.proofs.new_directory.append_left.Given as goal

abbrev pub invariant-loop-place : goal.invariant-loop-place
invariant-loop-place l = l.into.items ≡ l.fn.into.items ++ at_places l.leaves (take l.place-index l.written)

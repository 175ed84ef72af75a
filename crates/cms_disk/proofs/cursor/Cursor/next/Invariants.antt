use Rattle.std.proofs.Common.{◌≡◌, ◌≤◌, ◌-◌, ℕ, List, length}
use Rattle.cms_edf.specs.OpeningSteps.{OfImage}
use Rattle.cms_disk.specs.Cursors.{HasLeft, SameFile}
use Rattle.cms_disk.proofs.ReadMoves.{BegunAt}
use Rattle.cms_disk.proofs.cursor.Cursor.next.Given as goal

abbrev pub invariant-loop-self : goal.invariant-loop-self
invariant-loop-self g l = record {
  file : SameFile l.fn.self l.self;
  left : l.self.left ≡ l.fn.self.left;
  some : 1 ≤ l.fn.self.left;
  altered : l.self.altered ≡ l.fn.self.altered;
  records : OfImage (g.W.World.told l.fn.world) l.fn.self.unit (λ image. (records : List (List ℕ)) → HasLeft image l.fn.self records → HasLeft image l.self records);
  needed : BegunAt l.fn.self l.self;
  told : g.W.World.told l.world ≡ g.W.World.told l.fn.world;
  faults : g.W.World.faults l.fn.world ≤ g.W.World.faults l.world;
  edges : g.W.World.edges l.world ≡ g.W.World.edges l.fn.world;
}

abbrev pub decreases-loop-self : goal.decreases-loop-self
decreases-loop-self g l = length l.self.leaves - l.self.done

use Rattle.std.proofs.Common.{◌≡◌, ◌≤◌}
use Rattle.cms_disk.specs.Cursors.{SameFile}
use Rattle.cms_disk.proofs.RecordsGathered.{GatherTo}
use Rattle.cms_disk.proofs.get.gather.Given as goal

abbrev pub invariant-loop-bytes : goal.invariant-loop-bytes
invariant-loop-bytes g l = record {
  to : GatherTo (g.W.World.told l.fn.world) l.format l.fn.cursor l.cursor l.bytes.items l.longest;
  file : SameFile l.fn.cursor l.cursor;
  told : g.W.World.told l.world ≡ g.W.World.told l.fn.world;
  faults : g.W.World.faults l.fn.world ≤ g.W.World.faults l.world;
  edges : g.W.World.edges l.world ≡ g.W.World.edges l.fn.world;
}

abbrev pub decreases-loop-bytes : goal.decreases-loop-bytes
decreases-loop-bytes g l = l.cursor.left

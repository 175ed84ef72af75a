use Rattle.std.proofs.Common.{◌≡◌, ◌+◌, ◌*◌, ◌≤◌, vec_capacity}
use Rattle.cms_disk.specs.Cursors.{SameFile}
use Rattle.cms_copyfile.proofs.Passes.{MeasuredTo}
use Rattle.cms_copyfile.proofs.first_pass.measure_copies.Given as goal

abbrev pub invariant-loop-place : goal.invariant-loop-place
invariant-loop-place g l = record {
  to : MeasuredTo (g.W.World.told l.fn.world) l.plan l.fn.cursor l.cursor l.place l.measure;
  file : SameFile l.fn.cursor l.cursor;
  left : l.cursor.left + l.place ≡ l.fn.cursor.left;
  few : l.measure.count ≤ l.place;
  bytes : l.measure.bytes ≤ 65537 * l.place;
  capacity : vec_capacity l.fn.buffer ≤ vec_capacity l.buffer;
  told : g.W.World.told l.world ≡ g.W.World.told l.fn.world;
  faults : g.W.World.faults l.fn.world ≤ g.W.World.faults l.world;
  edges : g.W.World.edges l.world ≡ g.W.World.edges l.fn.world;
}

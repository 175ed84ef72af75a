use Rattle.mini_work.specs.Causes.{AreLater, on_world}
use Rattle.std.proofs.Common.{◌≡◌, ℕ}
use Rattle.cms_disk.specs.Cursors.{SameFile}
use Rattle.mini_work.proofs.ReadOn.{LinesTo}
use Rattle.mini_work.proofs.handed_file.are_lines.Given as goal

abbrev pub invariant-records : goal.invariant-records
invariant-records g l = record {
  to : LinesTo (g.W.World.told l.initial.world) l.initial.cursor l.cursor;
  file : SameFile l.initial.cursor l.cursor;
  told : g.W.World.told l.world ≡ g.W.World.told l.initial.world;
  later : (n : ℕ) → AreLater (on_world g.W.World l.initial.world n) (on_world g.W.World l.world n);
}

abbrev pub decreases-records : goal.decreases-records
decreases-records g l = l.cursor.left

use Rattle.std.proofs.Common.{◌≡◌, ◌≤◌, ◌*◌, length}
use Rattle.std.specs.Option.{ForSome}
use Rattle.cms_journal.specs.Journal.{contents_of}
use Rattle.cms_model.specs.Trees.{image_of}
use Rattle.cms_edf.proofs.Gathered.{Reads}
use Rattle.cms_edf.proofs.trees.bytes_of.Given as goal

abbrev pub invariant-loop-place : goal.invariant-loop-place
invariant-loop-place g l = record {
  reads : ForSome (g.W.World.told l.fn.world) (λ j. Reads (image_of (contents_of j l.unit)) l.blocks l.place l.bytes.items);
  size : length l.bytes.items ≡ l.bsize * l.place;
  told : g.W.World.told l.world ≡ g.W.World.told l.fn.world;
  faults : g.W.World.faults l.fn.world ≤ g.W.World.faults l.world;
  edges : g.W.World.edges l.world ≡ g.W.World.edges l.fn.world;
}

use Rattle.std.proofs.Common.{◌≡◌, ◌≤◌, ◌*◌, length}
use Rattle.std.specs.Option.{ForSome}
use Rattle.cms_journal.specs.Journal.{contents_of}
use Rattle.cms_model.specs.Trees.{image_of}
use Rattle.cms_edf.proofs.Gathered.{Reads}
use Rattle.cms_edf.proofs.trees.directory_bytes.Given as goal

abbrev pub invariant-loop-nth : goal.invariant-loop-nth
invariant-loop-nth g l = record {
  reads : ForSome (g.W.World.told l.fn.world) (λ j. Reads (image_of (contents_of j l.place.unit)) l.blocks l.nth l.bytes.items);
  size : length l.bytes.items ≡ l.place.bsize * l.nth;
  told : g.W.World.told l.world ≡ g.W.World.told l.fn.world;
  faults : g.W.World.faults l.fn.world ≤ g.W.World.faults l.world;
  edges : g.W.World.edges l.world ≡ g.W.World.edges l.fn.world;
}

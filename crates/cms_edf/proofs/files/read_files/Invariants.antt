use Rattle.std.proofs.Common.{◌≡◌, ◌≤◌, length, take, None}
use Rattle.std.specs.Option.{ForSome}
use Rattle.std.specs.List.{All}
use Rattle.cms_journal.specs.Journal.{contents_of}
use Rattle.cms_model.specs.Trees.{image_of}
use Rattle.cms_tree.specs.Walks.{IsWithin}
use Rattle.cms_edf.specs.OpeningFiles.{HaveCounts}
use Rattle.cms_edf.proofs.FileTrees.{FilesTo}
use Rattle.cms_edf.proofs.files.read_files.Given as goal

abbrev pub invariant-loop-nth : goal.invariant-loop-nth
invariant-loop-nth g l = record {
  files : ForSome (g.W.World.told l.fn.world) (λ j. FilesTo l.place (image_of (contents_of j l.place.unit)) l.leaves l.entries l.nth l.trees.items);
  counts : HaveCounts l.place.bsize (take l.nth l.entries) l.trees.items;
  many : length l.trees.items ≡ l.nth;
  within : All (IsWithin l.place.total None) l.trees.items;
  told : g.W.World.told l.world ≡ g.W.World.told l.fn.world;
  faults : g.W.World.faults l.fn.world ≤ g.W.World.faults l.world;
  edges : g.W.World.edges l.world ≡ g.W.World.edges l.fn.world;
}

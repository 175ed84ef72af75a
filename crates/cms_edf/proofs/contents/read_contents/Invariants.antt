use Rattle.std.proofs.Common.{◌≡◌, ◌≤◌, ◌++◌, length, map, take}
use Rattle.std.specs.List.{All}
use Rattle.std.specs.Option.{ForSome}
use Rattle.std.specs.Vec.Iter.{into_iter_items, into_iter_len}
use Rattle.indexmap.specs.IndexMap.{values}
use Rattle.cms_journal.specs.Journal.{contents_of}
use Rattle.cms_model.specs.Trees.{image_of}
use Rattle.cms_held.specs.HeldVolumes.{by_name, names_in}
use Rattle.cms_held.specs.Kept.{IsKeptFile}
use Rattle.cms_edf.proofs.RecordsRead.{ContentsTo}
use Rattle.cms_edf.proofs.contents.read_contents.Given as goal

abbrev pub invariant-loop-tree : goal.invariant-loop-tree
invariant-loop-tree g l = record {
  trees : l.yielded ++ into_iter_items l.tree-iterator ≡ into_iter_items l.initial.tree-iterator;
  len : into_iter_len l.tree-iterator ≡ length (into_iter_items l.tree-iterator);
  many : length l.files.entries ≡ length l.yielded;
  contents : ForSome (g.W.World.told l.fn.world) (λ j. ContentsTo l.place.bsize (image_of (contents_of j l.place.unit)) l.entries (into_iter_items l.initial.tree-iterator) (length l.yielded)
      (values l.files));
  named : l.files.entries ≡ by_name (values l.files);
  names : names_in (values l.files) ≡ map (λ e. e.name) (take (length l.yielded) l.entries);
  each : All (IsKeptFile l.place.bsize l.place.total) (values l.files);
  told : g.W.World.told l.world ≡ g.W.World.told l.fn.world;
  faults : g.W.World.faults l.fn.world ≤ g.W.World.faults l.world;
  edges : g.W.World.edges l.world ≡ g.W.World.edges l.fn.world;
}

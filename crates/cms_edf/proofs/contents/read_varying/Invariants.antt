use Rattle.std.proofs.Common.{◌≡◌, ◌≤◌, ◌*◌, ℕ, List}
use Rattle.std.specs.Option.{ForSome}
use Rattle.cms_journal.specs.Journal.{contents_of}
use Rattle.cms_model.specs.Trees.{image_of}
use Rattle.cms_records.specs.Scans.{IsFed}
use Rattle.cms_edf.proofs.RecordsRead.{Takes}
use Rattle.cms_edf.proofs.contents.read_varying.Given as goal

abbrev pub invariant-loop-nth : goal.invariant-loop-nth
invariant-loop-nth g l = record {
  takes : ForSome (g.W.World.told l.fn.world) (λ j. Takes (image_of (contents_of j l.place.unit)) l.leaves l.nth l.count l.scan);
  gathered : (bytes : List ℕ) × IsFed l.count bytes l.scan;
  bsize : l.scan.bsize ≡ l.place.bsize;
  fed : l.scan.fed ≡ l.place.bsize * l.nth;
  told : g.W.World.told l.world ≡ g.W.World.told l.fn.world;
  faults : g.W.World.faults l.fn.world ≤ g.W.World.faults l.world;
  edges : g.W.World.edges l.world ≡ g.W.World.edges l.fn.world;
}

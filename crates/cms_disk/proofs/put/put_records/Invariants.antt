use Rattle.std.proofs.Common.{◌≡◌, ◌≤◌}
use Rattle.std.specs.Option.{ForSome}
use Rattle.cms_journal.specs.Told.{Grown}
use Rattle.cms_held.specs.BlockWriters.{CanWrite}
use Rattle.cms_records.specs.Stored.{records_in}
use Rattle.cms_disk.proofs.RecordsPut.{PutTo}
use Rattle.cms_disk.proofs.put.put_records.Given as goal

abbrev pub invariant-loop-text : goal.invariant-loop-text
invariant-loop-text g l = record {
  next : (goal.iterator-loop-text g).can_next l.text-iterator;
  finite : (goal.iterator-loop-text g).is_finite l.text-iterator;
  put : PutTo (g.W.World.told l.fn.world) (g.W.World.told l.world) l.fn.draft l.draft (records_in l.file) l.text-iterator;
  ready : ForSome (g.W.World.told l.world) (λ j. CanWrite j.units l.draft.writer.writer);
  grown : Grown (g.W.World.told l.fn.world) (g.W.World.told l.world);
  faults : g.W.World.faults l.fn.world ≤ g.W.World.faults l.world;
  edges : g.W.World.edges l.world ≡ g.W.World.edges l.fn.world;
}

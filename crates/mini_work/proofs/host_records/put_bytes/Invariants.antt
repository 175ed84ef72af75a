use Rattle.mini_work.specs.Causes.{AreLater, on_world}
use Rattle.std.proofs.Common.{◌≡◌, ◌-◌, ◌++◌, ℕ, List, Ok, drop, length}
use Rattle.std.specs.Option.{ForSome}
use Rattle.cms_journal.specs.Told.{Grown, Told}
use Rattle.cms_held.specs.BlockWriters.{CanWrite}
use Rattle.cms_fields.specs.declared.time.Stamp.{Stamp}
use Rattle.cms_model.specs.Changes.{Change}
use Rattle.cms_model.specs.Minidisks.{Minidisk}
use Rattle.cms_disk.specs.Disks.{Accessed}
use Rattle.cms_disk.specs.Drafts.{GoesOn, IsSameDraft}
use Rattle.mini_forms.specs.RecordReads.{read_from}
use Rattle.mini_work.specs.HostRecords.{PutsTo}
use Rattle.mini_work.proofs.host_records.put_bytes.Given as goal

abbrev pub invariant-loop-place : goal.invariant-loop-place
invariant-loop-place g l = record {
  to : (start : Told) (d : Accessed) (m : Minidisk) (change : Change) (stamp : Stamp) (done more : List (List ℕ)) (rest : List ℕ) → GoesOn start (g.W.World.told l.initial.world) d m l.initial.draft change stamp done more → read_from l.initial.reader (l.bytes ++ rest) ≡ Ok more
      → PutsTo start (g.W.World.told l.world) d m l.draft change stamp done more l.reader (drop l.place l.bytes ++ rest);
  same : IsSameDraft l.initial.draft l.draft;
  ready : ForSome (g.W.World.told l.world) (λ j. CanWrite j.units l.draft.writer.writer);
  grown : Grown (g.W.World.told l.initial.world) (g.W.World.told l.world);
  later : (n : ℕ) → AreLater (on_world g.W.World l.initial.world n) (on_world g.W.World l.world n);
}

abbrev pub decreases-loop-place : goal.decreases-loop-place
decreases-loop-place g l = length l.bytes - l.place

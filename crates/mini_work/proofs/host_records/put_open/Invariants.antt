use Rattle.mini_work.specs.Causes.{AreLater, counts}
use Rattle.std.proofs.Common.{◌≡◌, ℕ, List, [], Ok, Some}
use Rattle.std.specs.Option.{ForSome}
use Rattle.cms_journal.specs.Told.{Grown, Told}
use Rattle.cms_held.specs.BlockWriters.{CanWrite}
use Rattle.cms_fields.specs.declared.time.Stamp.{Stamp}
use Rattle.cms_model.specs.Changes.{Change}
use Rattle.cms_model.specs.Minidisks.{Minidisk}
use Rattle.cms_disk.specs.Disks.{Accessed}
use Rattle.cms_disk.specs.Drafts.{GoesOn, IsSameDraft}
use Rattle.mini_forms.specs.RecordReads.{read_from}
use Rattle.mini_host.specs.Files.{Files}
use Rattle.mini_work.specs.HostRecords.{IsOpen}
use Rattle.mini_work.specs.HostTold.{SameFiles}
use Rattle.mini_work.proofs.PutAll.{PutsOn}
use Rattle.mini_work.proofs.host_records.put_open.Given as goal

abbrev pub invariant-reads : goal.invariant-reads
invariant-reads g l = record {
  to : (start : Told) (d : Accessed) (m : Minidisk) (change : Change) (stamp : Stamp) (records : List (List ℕ)) (h : Files) (bytes : List ℕ) → GoesOn start (g.W.World.told l.initial.world) d m l.initial.draft change stamp [] records → g.H.Host.told l.initial.host ≡ Some h → h.left ≡ Some bytes
      → read_from l.initial.reader bytes ≡ Ok records
      → PutsOn start (g.W.World.told l.world) d m l.draft change stamp records l.reader h (g.H.Host.told l.host);
  same : IsSameDraft l.initial.draft l.draft;
  ready : ForSome (g.W.World.told l.world) (λ j. CanWrite j.units l.draft.writer.writer);
  grown : Grown (g.W.World.told l.initial.world) (g.W.World.told l.world);
  files : SameFiles (g.H.Host.told l.initial.host) (g.H.Host.told l.host);
  opened : IsOpen (g.H.Host.told l.host);
  later : AreLater (counts g.W.World g.H.Host l.initial.world l.initial.host) (counts g.W.World g.H.Host l.world l.host);
}

abbrev pub decreases-reads : goal.decreases-reads
decreases-reads g l = g.H.Host.rest l.host

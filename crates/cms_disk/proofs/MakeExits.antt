-- The making of an empty minidisk where nothing was done, and what it hands on.
use Rattle.std.proofs.Common.{◌≡◌, inl, inr, ℕ, List, [], Result, Some, IsErrAnd, refl, sym, ◌∙◌, ap, subst, arith}
use Rattle.std.specs.Prelude.{IfErr}
use Rattle.cms_journal.proofs.Pieces.{grown_same}
use Rattle.cms_journal.specs.Causes.{Rose}
use Rattle.cms_journal.specs.Journal.{Journal, HasBlocks, IsWritable}
use Rattle.cms_journal.specs.Told.{Told, plus}
use Rattle.cms_journal.specs.declared.event.Attached.{Attached}
use Rattle.cms_fields.specs.declared.time.Stamp.{Stamp}
use Rattle.cms_model.specs.LawsUpdates.{wipe}
use Rattle.cms_model.specs.Minidisks.{State}
use Rattle.cms_model.specs.Volumes.{Disk}
use Rattle.cms_world.specs.Seen.{ChangesUnits, Seen}
use Rattle.cms_tree.proofs.ClimbSteps.{units_kept}
use Rattle.cms_held.specs.EmptyVolumes.{MakePlan, IsEmptyVolume, empty_label, made_volume}
use Rattle.cms_held.specs.HeldVolumes.{HeldVolume}
use Rattle.cms_edf.proofs.Exits.{err_at_err}
use Rattle.cms_disk.specs.Changes.{IsDevices}
use Rattle.cms_disk.specs.Disks.{Accessed, IsOn, IsVolumeOf, disk_on}
use Rattle.cms_disk.specs.EmptyMinidisks.{Formats, GrownOf, IsEmptyOn, IsMakeFault, IsReady, LeavesQuiet}
use Rattle.cms_disk.specs.declared.fault.DiskFault.{DiskFault}
use Rattle.cms_disk.specs.declared.fault.DiskFault.TheVariants.{Memory}
use Rattle.cms_disk.specs.declared.unit.UnitInfo.{UnitInfo}
use Rattle.cms_disk.proofs.MakeSteps.{wipe_grown}
use Rattle.cms_disk.proofs.ReadSteps.{err_is}
use Rattle.cms_disk.proofs.StepPieces.{grown_some}

memory_none : (e : DiskFault) → e ≡ Memory → IsDevices e → ⊥
memory_none e is (inl device) = cc
memory_none e is (inr doubt) = cc

-- ---- there was no memory

module _ (unit : UnitInfo) (r : Result Accessed DiskFault) (h : IsErrAnd r (λ e. e ≡ Memory)) where
  pub formats_nothing : (old : Told) (before : State) (volid : List ℕ) (stamp : Stamp) → Formats old old unit before volid stamp r
  formats_nothing old before volid stamp = subst (Formats old old unit before volid stamp) (sym (err_is r Memory h)) refl

  pub quiet_nothing : (j : Journal) (old : Told) (before : State) → old ≡ Some j → IsReady j unit before → LeavesQuiet old unit r
  quiet_nothing j old before told ready = rw (told, err_is r Memory h) ready.quiet

  pub fault_memory : IfErr r IsMakeFault
  fault_memory = err_at_err (λ e. e ≡ Memory) r IsMakeFault h (λ e is. subst IsMakeFault (sym is) tt)

  pub changes_nothing : (s : Seen) → ChangesUnits s s IsDevices r
  changes_nothing s = record {
    grown = grown_same s.told s.told refl;
    faults = omega arith;
    edges = refl;
    cause = err_at_err (λ e. e ≡ Memory) r (λ e. IsDevices e → Rose s.faults s.faults) h (λ e is device. absurd (memory_none e is device));
  }

pub grown_nothing : (u : ℕ) (old : Told) → GrownOf u old old
grown_nothing u old = record { events = []; told = refl; of_unit = tt }

-- ---- the unit was wiped, and its blocks stay

module _ (u count bsize planned : ℕ) (old mid : Told) (same : planned ≡ u) (told : mid ≡ plus old (wipe u bsize)) where
  pub make_blocks : (disk : Disk) → disk ≡ record { bsize = bsize; count = count } → ((j : Journal) → old ≡ Some j → HasBlocks j.units u count bsize) → (k : Journal) → mid ≡ Some k
      → HasBlocks k.units planned disk.count disk.bsize
  make_blocks disk looked has k is = rw (same, looked) (units_kept (λ (units : List Attached). HasBlocks units u count bsize) old mid (grown_some (wipe_grown u bsize old mid told)) has k is)

  pub make_writable : ((j : Journal) → old ≡ Some j → IsWritable j.units u) → (k : Journal) → mid ≡ Some k → IsWritable k.units planned
  make_writable may k is = rw same (units_kept (λ (units : List Attached). IsWritable units u) old mid (grown_some (wipe_grown u bsize old mid told)) may k is)

-- ---- the volume is that of its unit

module _ (unit : UnitInfo) (m : MakePlan) (v : HeldVolume) (is : v ≡ made_volume m) (number : m.unit ≡ unit.unit.number) (disk : m.disk ≡ disk_on unit) where
  pub volume_on : IsVolumeOf unit v
  volume_on = record { number = ap (λ (x : HeldVolume). x.unit) is ∙ number; disk = ap (λ (x : HeldVolume). x.disk) is ∙ disk }

  pub made_on : (spare : ℕ) → IsOn unit (record { vdev = unit.vdev; writable = unit.writable; volume = v; spare = spare })
  made_on spare = record { vdev = refl; writable = refl; number = volume_on.number; disk = volume_on.disk }

  pub made_without_files : (spare : ℕ) (volid : List ℕ) (stamp : Stamp) → IsEmptyVolume m volid stamp
      → IsEmptyOn unit volid (record { vdev = unit.vdev; writable = unit.writable; volume = v; spare = spare })
  made_without_files spare volid stamp empty = record {
    label = ap (λ (x : HeldVolume). x.label) is ∙ (empty.label ∙ ap (empty_label volid) disk);
    files = ap (λ (x : HeldVolume). x.files) is;
  }

-- Copies that are written as a file of the disk of a letter, or added to one.
use Rattle.std.specs.Prelude.{◌≡◌, ℕ, true, List, [], Option, Some, Result, Ok, Err, IfErr, IfOk, ⊤}
use Rattle.std.specs.Option.{ForSome, IsSome}
use Rattle.cms_journal.specs.Journal.{Journal, IsWritable}
use Rattle.cms_journal.specs.Told.{Told}
use Rattle.cms_names.specs.declared.name.Name.{Name}
use Rattle.cms_fields.specs.declared.time.Stamp.{Stamp}
use Rattle.cms_model.specs.Changes.{Add, Change, Changed, Put, answer_of, changed, file_named}
use Rattle.cms_model.specs.Minidisks.{File, Minidisk}
use Rattle.cms_model.specs.Records.{length_of}
use Rattle.cms_held.specs.FileWriters.{HaveShape}
use Rattle.cms_held.specs.declared.shape.DraftShape.{DraftShape}
use Rattle.cms_held.specs.HeldVolumes.{HeldVolume}
use Rattle.cms_world.specs.Seen.{OnlyReads, Seen}
use Rattle.cms_edf.specs.FileDrafts.{CanDraft, Draft}
use Rattle.cms_edf.specs.OpeningSteps.{OfImage}
use Rattle.cms_disk.specs.Additions.{HaveShapeBehind, MayExtend}
use Rattle.cms_disk.specs.Changes.{Appends, ChangesDisk}
use Rattle.cms_disk.specs.Cursors.{HasLeft, Cursor}
use Rattle.cms_disk.specs.Disks.{Accessed, IsMinidisk, IsReadable, place_of}
use Rattle.cms_disk.specs.Drafts.{GoesOn, IsGivenUp, file_with}
use Rattle.cms_disk.specs.declared.fault.DiskFault.{DiskFault}
use Rattle.cms_disk.specs.declared.fault.DiskFault.TheVariants as failed
use Rattle.cms_search.specs.Drafts.{IsPlannedOn}
use Rattle.cms_search.specs.Seats.{HasDisk}
use Rattle.cms_search.specs.Tables.{AccessTable, Seated}
use Rattle.cms_copyfile.specs.Copies.{CopiedTo, CopiesFrom, ReadsWell, StayBeside}
use Rattle.cms_copyfile.specs.Outputs.{copies_in}
use Rattle.cms_copyfile.specs.declared.output.CopyPlan.{CopyPlan}
use Rattle.cms_copyfile.specs.declared.draft.CopyTarget.{CopyTarget}
use Rattle.cms_copyfile.specs.declared.draft.CopyWrite.{CopyWrite}
use Rattle.cms_copyfile.specs.declared.draft.CopyWrite.TheVariants.{Added, Whole}
use Rattle.cms_copyfile.specs.declared.draft.Written.{Written}
use Rattle.cms_copyfile.specs.declared.draft.Written.TheVariants.{Altered, Came, Unread}

-- ---- what is written

-- the change that writes these records: a file of them is put, or they are added to the one of the name
abbrev pub change_as : CopyWrite → Name → DraftShape → List (List ℕ) → Change
change_as Whole name shape all = Put (file_with name shape all)
change_as Added name shape all = Add name all shape.stamp

-- the change of the target's disk
abbrev pub changing : CopyTarget → List (List ℕ) → Change
changing to all = change_as to.write to.name to.shape all

-- the records are those of a file of this shape, or those behind the ones of the file that is there
abbrev pub HaveRecords : CopyWrite → Option File → DraftShape → List (List ℕ) → Type 0
HaveRecords Whole there shape all = HaveShape shape all × (length_of shape.format shape.length all ≡ shape.length)
HaveRecords Added there shape all = (file : File) × (there ≡ Some file) × HaveShapeBehind file shape all

-- a volume may have a file of this name and shape, or the one that it has can become one
abbrev pub FitsVolume : CopyWrite → HeldVolume → Name → DraftShape → Type 0
FitsVolume Whole v name shape = CanDraft shape
FitsVolume Added v name shape = IsSome (place_of name v) × MayExtend v name shape

-- ---- what it comes to

-- the minidisk stands, and was to be changed
pub record IsUnread (old new : Told) (d : Accessed) (m : Minidisk) (change : Change) : Type 0 where
  pub stands : IsGivenUp old new d m change
  pub answer : answer_of m change ≡ Changed (changed m change)

-- what the writing of copies came to, as this change, where e is the disk then
abbrev pub CameTo : Told → Told → Accessed → Accessed → Minidisk → Change → Stamp → Written → Type 0
CameTo old new d e m change stamp (Came r) = Appends old new d e m change stamp r
CameTo old new d e m change stamp Unread = IsUnread old new d m change
CameTo old new d e m change stamp Altered = ⊥

-- a draft for the change goes on, on a disk of the same volume
pub record StillGoes (start now : Told) (d : Accessed) (m : Minidisk) (change : Change)
    (stamp : Stamp) (plan : CopyPlan) (first c : Cursor) (records : List (List ℕ)) :
    Type 0 where
  pub disk : Accessed
  pub volume : disk.volume ≡ d.volume
  pub draft : Draft
  pub place : ℕ
  pub to : CopiedTo start now disk m draft change stamp plan first c records place

-- on which unit a call failed: at Unread the draft still goes on, with the copies of all records that were read; where the writing came to
-- an answer no read failed
abbrev pub WriteFailsOn : Told → Told → Accessed → Minidisk → Change → Stamp → CopyPlan → Cursor
    → Cursor → List (List ℕ) → Written → Type 0
WriteFailsOn start now d m change stamp plan first c records (Came r) =
    ReadsWell start first c records
WriteFailsOn start now d m change stamp plan first c records Unread =
    StillGoes start now d m change stamp plan first c records
WriteFailsOn start now d m change stamp plan first c records Altered = ⊤

-- the answer of the output's disk
abbrev pub answer_in : Written → Result ⊤ DiskFault
answer_in (Came r) = r
answer_in Unread = Err failed.Device
answer_in Altered = Err failed.Altered

-- ---- the draft

-- a disk's blocks may be read, and written where the disk may be; what is to be written fits it
pub record MayWrite (told : Told) (d : Accessed) (to : CopyTarget) : Type 0 where
  pub there : to.there ≡ place_of to.name d.volume
  pub fits : FitsVolume to.write d.volume to.name to.shape
  pub blocks : ForSome told (λ j. IsReadable j d)
  pub writable : d.writable ≡ true → ForSome told (λ j. IsWritable j.units d.volume.unit)

-- the disk is this minidisk, and these records are to be written
pub record IsToHave (told : Told) (d : Accessed) (m : Minidisk) (to : CopyTarget) (all : List (List ℕ)) : Type 0 where
  pub at : Journal
  pub told_is : told ≡ Some at
  pub minidisk : IsMinidisk at d m
  pub have : HaveRecords to.write (file_named to.name m.files) to.shape all

-- a draft begins for the change, which isn't refused
pub record Begins (old new : Told) (d : Accessed) (m : Minidisk) (draft : Draft) (change : Change) (stamp : Stamp)
    (all : List (List ℕ)) :
    Type 0 where
  pub goes : GoesOn old new d m draft change stamp [] all
  pub answer : answer_of m change ≡ Changed (changed m change)

-- what planning came to, where d is the disk before it and e the disk then: a draft begins, or the change came to that fault
abbrev pub PlansAs : Told → Told → Accessed → Accessed → Minidisk → Change → Stamp → List (List ℕ) → Result Draft DiskFault → Type 0
PlansAs old new d e m change stamp all (Ok draft) = Begins old new e m draft change stamp all
PlansAs old new d e m change stamp all (Err fault) = Appends old new d e m change stamp (Err fault)

-- what planning it said; the disk has other spare places at most
pub record PlansTo (before now : Seen) (d e : Accessed) (to : CopyTarget) (result : Result Draft DiskFault) : Type 0 where
  pub planned : IfOk result (IsPlannedOn d e)
  pub plans : (m : Minidisk) (all : List (List ℕ)) → IsToHave before.told d m to all
      → PlansAs before.told now.told d e m (changing to all) to.stamp all result
  pub kept : e ≡ record d { spare = e.spare }
  pub sure : IfErr result (λ why. why ≡ failed.InDoubt → ⊥)
  pub reads : OnlyReads before now failed.Device result

-- a draft is made the disk's file
pub record FinishesTo (before now : Seen) (d e : Accessed) (draft : Draft) (written : Written) : Type 0 where
  pub came : (start : Told) (m : Minidisk) (change : Change) (stamp : Stamp) (all : List (List ℕ))
      → GoesOn start before.told d m draft change stamp all [] → CameTo start now.told d e m change stamp written
  pub changes : ChangesDisk before now d e (answer_in written)

-- the copies are put in a draft, and it is made the disk's file
pub record FillsTo (before now : Seen) (d e : Accessed) (draft : Draft) (plan : CopyPlan) (c : Cursor)
    (written : Written) : Type 0 where
  pub came : (start : Told) (m : Minidisk) (change : Change) (stamp : Stamp) (records : List (List ℕ))
      → CopiesFrom start before.told d m draft change stamp plan c records → answer_of m change ≡ Changed (changed m change)
      → CameTo start now.told d e m change stamp written
  pub changes : ChangesDisk before now d e (answer_in written)

-- ---- the file

-- the copies of these records are to be written on the disk, which is this minidisk; they are left to read of a file that stays beside it
pub record CopiesInto (told : Told) (d : Accessed) (m : Minidisk) (to : CopyTarget) (plan : CopyPlan) (c : Cursor)
    (records : List (List ℕ)) : Type 0 where
  pub to_have : IsToHave told d m to (copies_in plan records)
  pub stay : StayBeside told d m c.unit c.leaves
  pub left : OfImage told c.unit (λ image. HasLeft image c records)

-- what writing copies came to, where d is the disk before and e the disk then
pub record WritesTo (before now : Seen) (d e : Accessed) (to : CopyTarget) (plan : CopyPlan) (c : Cursor)
    (written : Written) : Type 0 where
  pub came : (m : Minidisk) (records : List (List ℕ)) → CopiesInto before.told d m to plan c records
      → CameTo before.told now.told d e m (changing to (copies_in plan records)) to.stamp written
  pub changes : ChangesDisk before now d e (answer_in written)

-- on which unit a call failed while the copies were put in a draft of the disk, and it was finished
abbrev pub FillFailsOn : Told → Told → Accessed → Draft → CopyPlan → Cursor → Cursor → Written
    → Type 0
FillFailsOn old new d draft plan first c written =
    (start : Told) (m : Minidisk) (change : Change) (stamp : Stamp) (records : List (List ℕ))
    → CopiesFrom start old d m draft change stamp plan first records
    → WriteFailsOn start new d m change stamp plan first c records written

-- the same from the planning of the target's draft on
abbrev pub CopyFailsOn : Told → Told → Accessed → CopyTarget → CopyPlan → Cursor → Cursor
    → Written → Type 0
CopyFailsOn old new d to plan first c written =
    (m : Minidisk) (records : List (List ℕ)) → CopiesInto old d m to plan first records
    → WriteFailsOn old new d m (changing to (copies_in plan records)) to.stamp plan first c records
    written

-- ---- on the disk of letter n, which is that of s

-- what planning on the target's letter came to
abbrev pub PlansSeat : Seen → Seen → AccessTable → AccessTable → Seated → CopyTarget → Result Draft DiskFault → Type 0
PlansSeat before now t t' s to result = HasDisk t t' to.letter (λ e. PlansTo before now s.disk e to result)

-- what making a full draft a file of letter n's disk came to
abbrev pub FinishesSeat : Seen → Seen → AccessTable → AccessTable → ℕ → Seated → Draft → Written → Type 0
FinishesSeat before now t t' n s draft written = HasDisk t t' n (λ e. FinishesTo before now s.disk e draft written)

-- what putting the copies in a draft on letter n, and finishing it, came to
abbrev pub FillsSeat : Seen → Seen → AccessTable → AccessTable → ℕ → Seated → Draft → CopyPlan → Cursor → Written → Type 0
FillsSeat before now t t' n s draft plan c written = HasDisk t t' n (λ e. FillsTo before now s.disk e draft plan c written)

-- the same of the target's letter, from its draft on
abbrev pub WritesSeat : Seen → Seen → AccessTable → AccessTable → Seated → CopyTarget → CopyPlan → Cursor → Written → Type 0
WritesSeat before now t t' s to plan c written = HasDisk t t' to.letter (λ e. WritesTo before now s.disk e to plan c written)

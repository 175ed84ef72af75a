-- Files that are drafted for the disk of a letter.
use Rattle.std.specs.Prelude.{◌≡◌, ℕ, ◌≤◌, true, List, [], Some, Result, IfErr, IfOk, ⊤}
use Rattle.std.specs.Option.{ForSome}
use Rattle.cms_journal.specs.Journal.{IsWritable}
use Rattle.cms_journal.specs.Told.{Told}
use Rattle.cms_names.specs.declared.name.Name.{Name}
use Rattle.cms_fields.specs.declared.time.Stamp.{Stamp}
use Rattle.cms_model.specs.Changes.{Change}
use Rattle.cms_model.specs.Minidisks.{Minidisk}
use Rattle.cms_held.specs.declared.shape.DraftShape.{DraftShape}
use Rattle.cms_world.specs.Seen.{OnlyReads, Seen}
use Rattle.cms_edf.specs.FileDrafts.{Draft, IsSomeDraft}
use Rattle.cms_disk.specs.Additions.{AnswersMore, BeginsMore, IsMoreFault, MayExtend}
use Rattle.cms_disk.specs.Changes.{Alters, ChangesDisk, IsDevices}
use Rattle.cms_disk.specs.Disks.{Accessed, IsReadable, place_of}
use Rattle.cms_disk.specs.Drafts.{AnswersDraft, BeginsPut, GoesOn, IsDraftFault}
use Rattle.cms_disk.specs.declared.fault.DiskFault.{DiskFault}
use Rattle.cms_disk.specs.declared.fault.DiskFault.TheVariants.{Device}
use Rattle.cms_search.specs.Seats.{HasDisk}
use Rattle.cms_search.specs.Tables.{AccessTable, Seated}

-- a draft was planned for the disk d, which may be written; it is e then, with room for the file
pub record IsPlannedOn (d e : Accessed) (draft : Draft) : Type 0 where
  pub some : IsSomeDraft d.volume draft
  pub writable : d.writable ≡ true
  pub room : 1 ≤ e.spare

-- what planning a file for a minidisk said, where d is the disk before it and e the disk then, which has other spare places at most
pub record DraftsTo (d e : Accessed) (name : Name) (shape : DraftShape) (stamp : Stamp) (result : Result Draft DiskFault) : Type 0 where
  pub planned : IfOk result (IsPlannedOn d e)
  pub begins : IfOk result (BeginsPut d e name shape stamp)
  pub answers : AnswersDraft d name shape result
  pub fault : IfErr result (IsDraftFault d name shape)
  pub kept : e ≡ record d { spare = e.spare }

-- so a file was planned for the disk of letter n, which is that of s
abbrev pub DraftsSeat : AccessTable → AccessTable → ℕ → Seated → Name → DraftShape → Stamp → Result Draft DiskFault → Type 0
DraftsSeat t t' n s name shape stamp result = HasDisk t t' n (λ e. DraftsTo s.disk e name shape stamp result)

-- the file of the name, which has this place, can have the shape, and the disk's blocks may be read
pub record MayDraftMore (told : Told) (d : Accessed) (place : ℕ) (name : Name) (shape : DraftShape) : Type 0 where
  pub there : place_of name d.volume ≡ Some place
  pub extends : MayExtend d.volume name shape
  pub blocks : ForSome told (λ j. IsReadable j d)

-- what planning the addition of records to a file of a minidisk said, which reads alone
pub record DraftsMoreTo (before now : Seen) (d e : Accessed) (name : Name) (shape : DraftShape) (stamp : Stamp)
    (result : Result Draft DiskFault) :
    Type 0 where
  pub planned : IfOk result (IsPlannedOn d e)
  pub begins : IfOk result (BeginsMore before.told now.told d e name shape stamp)
  pub answers : AnswersMore d name shape result
  pub fault : IfErr result (IsMoreFault d name shape)
  pub kept : e ≡ record d { spare = e.spare }
  pub reads : OnlyReads before now Device result

-- so it was planned for the disk of letter n, which is that of s
abbrev pub DraftsMoreSeat : Seen → Seen → AccessTable → AccessTable → ℕ → Seated → Name → DraftShape → Stamp → Result Draft DiskFault
    → Type 0
DraftsMoreSeat before now t t' n s name shape stamp result =
    HasDisk t t' n (λ e. DraftsMoreTo before now s.disk e name shape stamp result)

-- the draft is of the disk, which has room for its file, and the disk's blocks may be read and written
pub record MayCommit (told : Told) (d : Accessed) (draft : Draft) : Type 0 where
  pub planned : IsSomeDraft d.volume draft
  pub room : 1 ≤ d.spare
  pub blocks : ForSome told (λ j. IsReadable j d)
  pub writable : ForSome told (λ j. IsWritable j.units d.volume.unit)

-- what making a drafted file a minidisk's said, as the change that it was drafted for, from the start of the draft on; d is the disk
-- before it and e the disk then
pub record CommitsTo (before now : Seen) (d e : Accessed) (draft : Draft) (result : Result ⊤ DiskFault) : Type 0 where
  pub alters : (start : Told) (m : Minidisk) (change : Change) (stamp : Stamp) (records : List (List ℕ))
      → GoesOn start before.told d m draft change stamp records [] → Alters start now.told d e m change stamp result
  pub fault : IfErr result IsDevices
  pub changes : ChangesDisk before now d e result

-- so a drafted file was made one of the disk of letter n, which is that of s
abbrev pub CommitsSeat : Seen → Seen → AccessTable → AccessTable → ℕ → Seated → Draft → Result ⊤ DiskFault → Type 0
CommitsSeat before now t t' n s draft result = HasDisk t t' n (λ e. CommitsTo before now s.disk e draft result)

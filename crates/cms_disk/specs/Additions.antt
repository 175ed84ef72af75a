-- Records that are added to a file of a minidisk.
use Rattle.std.specs.Prelude.{◌≡◌, ℕ, ◌+◌, ◌<◌, ◌≤◌, max, false, List, [], ◌++◌, length, slice_get, All, None, Some, Result, ⊤}
use Rattle.cms_journal.specs.Journal.{Journal}
use Rattle.cms_journal.specs.Told.{Told}
use Rattle.cms_names.specs.declared.name.Name.{Name}
use Rattle.cms_names.specs.declared.name.Format.TheVariants.{F}
use Rattle.cms_fields.specs.declared.time.Stamp.{Stamp}
use Rattle.cms_model.specs.Minidisks.{File, Minidisk}
use Rattle.cms_model.specs.Records.{Fits}
use Rattle.cms_model.specs.Changes.{Add, answer_of, changed, file_named}
use Rattle.cms_model.specs.declared.file.FileData.{FileData}
use Rattle.cms_map.specs.Bits.{free_blocks}
use Rattle.cms_held.specs.Growths.{length_with}
use Rattle.cms_held.specs.HeldVolumes.{HeldFile, HeldVolume}
use Rattle.cms_held.specs.Puts.{limit_put}
use Rattle.cms_held.specs.BlockWriters.{came}
use Rattle.cms_held.specs.FileWriters.{FileWriter}
use Rattle.cms_held.specs.declared.shape.DraftShape.{DraftShape}
use Rattle.cms_edf.specs.FileDrafts.{CanDraft, Draft}
use Rattle.cms_edf.specs.FilesTold.{infos_in, stored_in}
use Rattle.cms_edf.specs.Growths.{IsFileOf, IsMoreRefused, need_more}
use Rattle.cms_edf.specs.declared.growth.MoreFault.{MoreFault}
use Rattle.cms_edf.specs.declared.growth.MoreFault.TheVariants as refused
use Rattle.cms_edf.specs.declared.held.FileInfo.{FileInfo}
use Rattle.cms_disk.specs.Disks.{Accessed, IsMinidisk, IsReadable, place_of}
use Rattle.cms_disk.specs.Drafts.{GoesOn, HaveCounts, IsAnsweredBy}
use Rattle.cms_disk.specs.declared.fault.DiskFault.{DiskFault}
use Rattle.cms_disk.specs.declared.fault.DiskFault.TheVariants as failed

-- ---- what is asked for

-- this is told of the file of a name, and how many bytes are stored of it
pub record IsTold (v : HeldVolume) (name : Name) (info : FileInfo) (bytes : ℕ) : Type 0 where
  pub place : ℕ
  pub place_is : place_of name v ≡ Some place
  pub info_is : slice_get (infos_in v) place ≡ Some info
  pub bytes_are : slice_get (stored_in v) place ≡ Some bytes

-- a file of which this is told can become one of a shape, with more records
pub record CanExtend (info : FileInfo) (bytes : ℕ) (shape : DraftShape) : Type 0 where
  pub can : CanDraft shape
  pub format_is : shape.format ≡ info.format
  pub number_is : shape.number ≡ info.number
  pub fixed : shape.format ≡ F → shape.length ≡ info.length
  pub longer : info.length ≤ shape.length
  pub records : info.count < shape.count
  pub more : bytes < shape.bytes

-- so can the file of a name
abbrev pub MayExtend : HeldVolume → Name → DraftShape → Type 0
MayExtend v name shape = (info : FileInfo) (bytes : ℕ) → IsTold v name info bytes → CanExtend info bytes shape

-- ---- the draft

-- a draft of this shape stands behind the records of a file of which this is told: they count as put
pub record StandsBehind (info : FileInfo) (bytes : ℕ) (shape : DraftShape) (d : FileWriter) : Type 0 where
  pub shape_is : d.shape ≡ shape
  pub put : d.put ≡ info.count
  pub came_is : came d.writer ≡ bytes
  pub size_is : d.writer.size ≡ shape.bytes

-- so does the draft of the file of a name
abbrev pub IsBehindFile : HeldVolume → Name → DraftShape → Draft → Type 0
IsBehindFile v name shape draft = (info : FileInfo) (bytes : ℕ) → IsTold v name info bytes
    → StandsBehind info bytes shape draft.writer

-- a planned addition is refused for this reason
abbrev pub IsNoAddition : HeldVolume → Name → DraftShape → MoreFault → Type 0
IsNoAddition v name shape why = (f : HeldFile) → (at : IsFileOf v name f) → IsMoreRefused v at.place f shape why

-- a file of a name that is to have this shape passes no limit, and needs no more blocks than are free
abbrev pub HasRoomFor : HeldVolume → Name → DraftShape → Type 0
HasRoomFor v name shape = (f : HeldFile) → (at : IsFileOf v name f) → (limit_put (length v.files) shape.count shape.bytes ≡ None)
    × (need_more v at.place f shape ≤ length (free_blocks v.bits))

-- why no records are drafted for the file of a name, which is to have this shape: none has the name; it may not be written; else it
-- passes a limit; else it needs more blocks than are free; else the device failed; or there is no memory
abbrev pub IsMoreFault : Accessed → Name → DraftShape → DiskFault → Type 0
IsMoreFault d name shape failed.NotFound = place_of name d.volume ≡ None
IsMoreFault d name shape failed.ReadOnly = d.writable ≡ false
IsMoreFault d name shape (failed.Limit which) = IsNoAddition d.volume name shape (refused.Limit which)
IsMoreFault d name shape (failed.Full needs free) = IsNoAddition d.volume name shape (refused.Full needs free)
IsMoreFault d name shape failed.Device = IsNoAddition d.volume name shape refused.Device
IsMoreFault d name shape failed.Memory = ⊤
IsMoreFault d name shape failed.Exists = ⊥
IsMoreFault d name shape failed.InDoubt = ⊥
IsMoreFault d name shape failed.Altered = ⊥

-- a draft of the file of a name is answered as the change is that adds its further records
abbrev pub AnswersMore : {T : Type 0} → Accessed → Name → DraftShape → Result T DiskFault → Type 0
AnswersMore d name shape result =
    (j : Journal) (m : Minidisk) (file : File) (more : List (List ℕ)) → IsMinidisk j d m → IsReadable j d
    → file_named name m.files ≡ Some file → HaveCounts shape (file.records ++ more)
    → IsAnsweredBy (answer_of m (Add name more shape.stamp)) (changed m (Add name more shape.stamp)) result

-- with these records behind its own a file has such a shape
pub record HaveShapeBehind (file : File) (shape : DraftShape) (more : List (List ℕ)) : Type 0 where
  pub counts : HaveCounts shape (file.records ++ more)
  pub each : All (Fits shape.format shape.length) more
  pub long : length_with shape.format file.length more ≡ shape.length

-- a draft of this shape begins for the change that adds them
abbrev pub BeginsMore : Told → Told → Accessed → Accessed → Name → DraftShape → Stamp → Draft → Type 0
BeginsMore old new d e name shape stamp draft =
    (j : Journal) (m : Minidisk) (file : File) (more : List (List ℕ)) → old ≡ Some j → IsMinidisk j d m
    → file_named name m.files ≡ Some file → HaveShapeBehind file shape more
    → GoesOn old new e m draft (Add name more shape.stamp) stamp [] more

-- ---- records that are added at once

-- the records have the format of a file of which this is told, and where all have one length, its
abbrev pub FitsInfo : FileInfo → FileData → Type 0
FitsInfo info more = (more.format ≡ info.format) × (info.format ≡ F → more.length ≡ info.length)

-- so have they those of the file of a name
abbrev pub FitsFile : HeldVolume → Name → FileData → Type 0
FitsFile v name more = (k : ℕ) (info : FileInfo) → place_of name v ≡ Some k → slice_get (infos_in v) k ≡ Some info → FitsInfo info more

-- the shape of a file of which this is told, with such records behind its own
abbrev pub shape_with : FileInfo → ℕ → FileData → DraftShape
shape_with info bytes more = record {
  format = info.format;
  length = max info.length more.length;
  number = info.number;
  stamp = more.stamp;
  count = info.count + more.count;
  bytes = bytes + length more.bytes;
}

-- the file of a name isn't drafted for this reason, with these records behind its own
abbrev pub IsNotExtended : Accessed → Name → FileData → DiskFault → Type 0
IsNotExtended d name more e = (info : FileInfo) (bytes : ℕ) → IsTold d.volume name info bytes
    → IsMoreFault d name (shape_with info bytes more) e

-- why records aren't added to a file: none has the name; it may not be written; the file that it would be passes a limit, or else needs
-- more blocks than are free; else the device failed; or there is no memory
abbrev pub IsAddFault : Accessed → Name → FileData → DiskFault → Type 0
IsAddFault d name more failed.NotFound = place_of name d.volume ≡ None
IsAddFault d name more failed.ReadOnly = d.writable ≡ false
IsAddFault d name more (failed.Limit which) = IsNotExtended d name more (failed.Limit which)
IsAddFault d name more (failed.Full needs free) = IsNotExtended d name more (failed.Full needs free)
IsAddFault d name more failed.Device = IsNotExtended d name more failed.Device
IsAddFault d name more failed.InDoubt = IsNotExtended d name more failed.Device
IsAddFault d name more failed.Memory = ⊤
IsAddFault d name more failed.Exists = ⊥
IsAddFault d name more failed.Altered = ⊥

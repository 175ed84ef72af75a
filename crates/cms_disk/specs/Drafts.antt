-- A file that is drafted for a minidisk, while its records are put.
use Rattle.std.specs.Prelude.{◌≡◌, ℕ, ◌+◌, ◌<◌, ◌≤◌, false, List, [], ◌∷◌, ◌++◌, length, Some, None, Result, Ok, Err, ⊤}
use Rattle.cms_journal.specs.declared.event.Event.{Event}
use Rattle.cms_journal.specs.Journal.{Journal}
use Rattle.cms_journal.specs.Told.{Told, plus, syncs, OnlyOf}
use Rattle.cms_names.specs.declared.name.Name.{Name}
use Rattle.cms_names.specs.declared.name.Format.TheVariants.{F}
use Rattle.cms_model.specs.Minidisks.{File, Minidisk, Volume}
use Rattle.cms_fields.specs.declared.time.Stamp.{Stamp}
use Rattle.cms_model.specs.Records.{length_of, stored}
use Rattle.cms_model.specs.Changes.{Add, Answer, Century, Change, Changed, Drop, Limited, Put, Relabel, Rename, answer_of, changed, need}
use Rattle.cms_model.specs.Changes as model
use Rattle.cms_model.specs.declared.file.FileData.{FileData}
use Rattle.cms_model.specs.Volumes.{Disk}
use Rattle.cms_map.specs.Bits.{free_blocks}
use Rattle.cms_model.specs.Beats.{AreStamped, written_count}
use Rattle.cms_held.specs.Drafts.{Front, no_front}
use Rattle.cms_held.specs.Growths.{length_with}
use Rattle.cms_held.specs.HeldVolumes.{HeldFile}
use Rattle.cms_held.specs.Puts.{count_put, limit_put, need_put}
use Rattle.cms_held.specs.BlockWriters.{IsSame, came}
use Rattle.cms_held.specs.FileWriters.{FileWriter, Drafts, HaveShape}
use Rattle.cms_held.specs.declared.shape.DraftShape.{DraftShape}
use Rattle.cms_edf.specs.FileDrafts.{DraftStands, Draft, IsDraftFor, put_writes, tree_of}
use Rattle.cms_edf.specs.Growths.{IsFrontOf, IsMoreFor}
use Rattle.cms_disk.specs.CrashStates.{CoversOn}
use Rattle.cms_disk.specs.Disks.{Accessed, IsMinidisk, IsReadable}
use Rattle.cms_disk.specs.declared.fault.DiskFault.{DiskFault}
use Rattle.cms_disk.specs.declared.fault.DiskFault.TheVariants as failed

-- ---- what was written

-- what was written beside the minidisk of a unit: writes of that unit which begin no directory, and no sync; a crash within them or behind
-- them leaves the minidisk
pub record WritesAside (old new : Told) (disk : Disk) (u : ℕ) (m : Minidisk) : Type 0 where
  pub events : List Event
  pub told : new ≡ plus old events
  pub of_unit : OnlyOf u events
  pub unsynced : syncs events ≡ 0
  pub aside : AreStamped u None events
  pub covers : CoversOn disk old events u (Volume m ∷ []) (Volume m ∷ [])

-- the minidisk stands: its unit is settled at it, and may be read
pub record Stands (told : Told) (d : Accessed) (m : Minidisk) : Type 0 where
  pub at : Journal
  pub told_is : told ≡ Some at
  pub minidisk : IsMinidisk at d m
  pub readable : IsReadable at d

-- ---- what is drafted

-- the file of a name and a shape, with these records
abbrev pub file_with : Name → DraftShape → List (List ℕ) → File
file_with name shape records = record {
  name = name;
  number = shape.number;
  format = shape.format;
  length = shape.length;
  stamp = shape.stamp;
  records = records;
}

-- a draft is of this file, which takes the place of the one of its name, or stands last: with these records it is the file
pub record IsToPut (d : Accessed) (draft : Draft) (new : File) (stamp : Stamp) (front : Front) (records : List (List ℕ)) :
    Type 0 where
  pub shape : DraftShape
  pub planned : IsDraftFor d.volume new.name shape stamp draft
  pub new_is : new ≡ file_with new.name shape records
  pub nothing : front ≡ no_front
  pub long : length_of shape.format shape.length records ≡ shape.length

-- a draft adds these records, with this stamp, to the file of a name; what comes in front of them is what the unit has of it
pub record IsToAdd (j : Journal) (d : Accessed) (draft : Draft) (name : Name) (added stamp : Stamp) (front : Front)
    (records : List (List ℕ)) :
    Type 0 where
  pub file : HeldFile
  pub shape : DraftShape
  pub planned : IsMoreFor d.volume name file shape stamp draft
  pub added_is : added ≡ shape.stamp
  pub front_is : IsFrontOf j d.volume file (tree_of draft) front
  pub long : length_with shape.format file.length records ≡ shape.length

-- with these records a draft is for the change, with this stamp of the directory
abbrev pub IsFor : Journal → Accessed → Draft → Change → Stamp → Front → List (List ℕ) → Type 0
IsFor j d draft (Put new) stamp front records = IsToPut d draft new stamp front records
IsFor j d draft (Add name more added) stamp front records = (more ≡ records) × IsToAdd j d draft name added stamp front records
IsFor j d draft (Drop name) stamp front records = ⊥
IsFor j d draft (Rename from to number) stamp front records = ⊥
IsFor j d draft (Relabel volid) stamp front records = ⊥
IsFor j d draft (Century pivot) stamp front records = ⊥

-- a draft goes on for a change: the minidisk stands, from the start on only the draft was written, of its records the first were put and
-- the others are to come, and what was written of it stands; each of its blocks was written once, no more of them than the change needs
pub record GoesOn (start now : Told) (d : Accessed) (m : Minidisk) (draft : Draft) (change : Change) (stamp : Stamp)
    (done more : List (List ℕ)) :
    Type 0 where
  pub stands : Stands now d m
  pub aside : WritesAside start now d.volume.disk d.volume.unit m
  pub front : Front
  pub is_for : IsFor stands.at d draft change stamp front (done ++ more)
  pub drafts : Drafts draft.writer front done more
  pub written : DraftStands stands.at draft.writer front (done ++ more)
  pub count : written_count aside.events ≡ length (put_writes draft front (done ++ more))
  pub few : written_count aside.events ≤ need m change

-- it is given up: the minidisk stands, and no more blocks were written than the change needs
pub record IsGivenUp (start now : Told) (d : Accessed) (m : Minidisk) (change : Change) : Type 0 where
  pub stands : Stands now d m
  pub aside : WritesAside start now d.volume.disk d.volume.unit m
  pub few : written_count aside.events ≤ need m change

-- ---- the draft

-- it is the draft of the same file
pub record IsSameDraft (old new : Draft) : Type 0 where
  pub entry : new.entry ≡ old.entry
  pub systems : new.systems ≡ old.systems
  pub shape : new.writer.shape ≡ old.writer.shape
  pub writer : IsSame old.writer.writer new.writer.writer

-- it has as many records and bytes as it is to have
pub record IsFull (d : FileWriter) : Type 0 where
  pub records : d.put ≡ d.shape.count
  pub bytes : came d.writer ≡ d.writer.size

-- a record was put
pub record HasMore (old new : FileWriter) (text : List ℕ) : Type 0 where
  pub records : new.put ≡ old.put + 1
  pub bytes : came new.writer ≡ came old.writer + length (stored old.shape.format (text ∷ []))

-- ---- what is answered

-- why no file of this name and shape is drafted: the minidisk may not be written, or else the file passes a limit, or else it needs more
-- blocks than are free, or there is no memory
abbrev pub IsDraftFault : Accessed → Name → DraftShape → DiskFault → Type 0
IsDraftFault d name shape failed.ReadOnly = d.writable ≡ false
IsDraftFault d name shape (failed.Limit which) = limit_put (count_put d.volume name) shape.count shape.bytes ≡ Some which
IsDraftFault d name shape (failed.Full needs free) = (limit_put (count_put d.volume name) shape.count shape.bytes ≡ None)
    × (needs ≡ need_put d.volume name shape.format shape.bytes) × (free ≡ length (free_blocks d.volume.bits)) × (free < needs)
IsDraftFault d name shape failed.Memory = ⊤
IsDraftFault d name shape failed.NotFound = ⊥
IsDraftFault d name shape failed.Exists = ⊥
IsDraftFault d name shape failed.Device = ⊥
IsDraftFault d name shape failed.InDoubt = ⊥
IsDraftFault d name shape failed.Altered = ⊥

-- so is the change answered; a read may fail only where it isn't refused
abbrev pub IsAnsweredBy : {T : Type 0} → Answer → Minidisk → Result T DiskFault → Type 0
IsAnsweredBy answer after (Ok x) = answer ≡ Changed after
IsAnsweredBy answer after (Err (failed.Limit which)) = answer ≡ Limited which
IsAnsweredBy answer after (Err (failed.Full needs free)) = answer ≡ model.Full needs free
IsAnsweredBy answer after (Err failed.ReadOnly) = ⊤
IsAnsweredBy answer after (Err failed.Memory) = ⊤
IsAnsweredBy answer after (Err failed.NotFound) = ⊥
IsAnsweredBy answer after (Err failed.Exists) = ⊥
IsAnsweredBy answer after (Err failed.Device) = answer ≡ Changed after
IsAnsweredBy answer after (Err failed.InDoubt) = ⊥
IsAnsweredBy answer after (Err failed.Altered) = ⊥

-- records of so many bytes, as a file of this shape has them
pub record HaveCounts (shape : DraftShape) (records : List (List ℕ)) : Type 0 where
  pub count : length records ≡ shape.count
  pub bytes : length (stored shape.format records) ≡ shape.bytes

-- a draft of such a file is answered as the change is that puts the file
abbrev pub AnswersDraft : {T : Type 0} → Accessed → Name → DraftShape → Result T DiskFault → Type 0
AnswersDraft d name shape result =
    (j : Journal) (m : Minidisk) (records : List (List ℕ)) → IsMinidisk j d m → IsReadable j d → HaveCounts shape records
    → IsAnsweredBy (answer_of m (Put (file_with name shape records))) (changed m (Put (file_with name shape records))) result

-- a draft of such a file begins for the change that puts it, wherever the minidisk stands
abbrev pub BeginsPut : Accessed → Accessed → Name → DraftShape → Stamp → Draft → Type 0
BeginsPut d e name shape stamp draft =
    (j : Journal) (m : Minidisk) (records : List (List ℕ)) → IsMinidisk j d m → IsReadable j d
    → HaveShape shape records → length_of shape.format shape.length records ≡ shape.length
    → GoesOn (Some j) (Some j) e m draft (Put (file_with name shape records)) stamp [] records

-- what putting a record comes to: the draft goes on, or it is given up
abbrev pub PutsRecord : Told → Told → Accessed → Minidisk → Draft → Change → Stamp → List (List ℕ) → List (List ℕ)
    → Result ⊤ DiskFault → Type 0
PutsRecord start now d m draft change stamp done more (Ok x) = GoesOn start now d m draft change stamp done more
PutsRecord start now d m draft change stamp done more (Err e) = IsGivenUp start now d m change

-- ---- a file that is put whole

-- the shape of a file with these data
abbrev pub shape_of : FileData → DraftShape
shape_of f = record {
  format = f.format;
  length = f.length;
  number = f.number;
  stamp = f.stamp;
  count = f.count;
  bytes = length f.bytes;
}

-- the records of a file are the last of a draft
pub record AreLast (d : FileWriter) (f : FileData) : Type 0 where
  pub format : f.format ≡ d.shape.format
  pub fixed : d.shape.format ≡ F → f.length ≡ d.shape.length
  pub count : d.put + f.count ≡ d.shape.count
  pub bytes : came d.writer + length f.bytes ≡ d.writer.size

-- why a file isn't put: as it isn't drafted, or the device failed
abbrev pub IsPutFault : Accessed → Name → DraftShape → DiskFault → Type 0
IsPutFault d name shape failed.Device = ⊤
IsPutFault d name shape failed.InDoubt = ⊤
IsPutFault d name shape e = IsDraftFault d name shape e

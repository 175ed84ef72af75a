-- A minidisk that is changed, as a device step of a machine.
use Rattle.std.specs.Prelude.{◌≡◌, ◌⊎◌, ℕ, ◌-◌, ◌<◌, false, List, [], ◌∷◌, length, map, slice_get, slice_set, swap_remove, None, Some, Result, Ok, Err, IfErr, ⊤, unwrap_or}
use Rattle.cms_journal.specs.declared.event.Event.{Event}
use Rattle.cms_journal.specs.Journal.{Journal}
use Rattle.cms_journal.specs.Told.{Told, plus, OnlyOf}
use Rattle.cms_names.specs.declared.name.Name.{Name}
use Rattle.cms_fields.specs.declared.time.Stamp.{Stamp}
use Rattle.cms_model.specs.Minidisks.{File, Minidisk, State, Volume}
use Rattle.cms_model.specs.Changes.{Change, Put, Add, Drop, Rename, Relabel, Century, Limited, Changed, answer_of, file_named}
use Rattle.cms_model.specs.Changes as model
use Rattle.cms_model.specs.DirectoryParts.{all_entries}
use Rattle.cms_model.specs.Volumes.{Disk, state_of}
use Rattle.cms_model.specs.LawsSizes.{IsWhole}
use Rattle.cms_model.specs.LawsUpdates.{now}
use Rattle.cms_model.specs.Slots.{Side, Before, After, Settled, set_of, named}
use Rattle.cms_model.specs.Steps as steps
use Rattle.cms_model.specs.Steps.{Outcome, Good, ReadFault, OldFault, EitherFault, slot_after}
use Rattle.cms_model.specs.Beats.{FitsStep}
use Rattle.cms_map.specs.Bits.{free_blocks}
use Rattle.cms_held.specs.HeldVolumes.{HeldFile, HeldTree, HeldVolume}
use Rattle.cms_held.specs.Renewals.{made_at, made_without, moved_file, needed, renamed}
use Rattle.cms_held.specs.declared.shape.DraftShape.{DraftShape}
use Rattle.cms_edf.specs.FileDrafts.{file_for, list_with}
use Rattle.cms_edf.specs.declared.allotment.PlanFault.{PlanFault}
use Rattle.cms_edf.specs.declared.allotment.PlanFault.TheVariants as unplanned
use Rattle.cms_edf.specs.declared.growth.MoreFault.{MoreFault}
use Rattle.cms_edf.specs.declared.growth.MoreFault.TheVariants as unmade
use Rattle.cms_edf.specs.declared.change.Change as asked
use Rattle.cms_edf.specs.declared.change.Change.TheVariants as ask
use Rattle.cms_edf.specs.declared.doubt.Doubt.{Doubt}
use Rattle.cms_edf.specs.declared.doubt.Doubt.TheVariants.{Old, Either}
use Rattle.cms_world.specs.Seen.{Seen, ChangesUnits}
use Rattle.cms_disk.specs.CrashStates.{CoversOn}
use Rattle.cms_disk.specs.Disks.{Accessed, IsMinidisk, place_of}
use Rattle.cms_disk.specs.declared.fault.DiskFault.{DiskFault}
use Rattle.cms_disk.specs.declared.fault.DiskFault.TheVariants as failed

-- ---- what is done to the unit

-- the piece of the journal that a change of a unit's minidisk made, with its stamp and its outcome: it has the events of its unit and the
-- syncs that the outcome has, a crash within it leaves the minidisk before or after, and a crash behind it what the unit then is
pub record Changes (old new : Told) (disk : Disk) (u : ℕ) (m : Minidisk) (change : Change) (stamp : Stamp) (o : Outcome) : Type 0 where
  pub events : List Event
  pub told : new ≡ plus old events
  pub of_unit : OnlyOf u events
  pub fits : FitsStep (steps.Put u m change stamp) o events
  pub covers : CoversOn disk old events u (Volume m ∷ []) (set_of (slot_after (Settled (Volume m)) (steps.Put u m change stamp) o))

-- the contents of a unit have this state
abbrev pub HasState : Told → Disk → ℕ → State → Type 0
HasState None disk u state = ⊥
HasState (Some j) disk u state = state_of disk (now j u) ≡ state

-- each of its blocks has its size
abbrev pub IsWholeAt : Told → Disk → ℕ → Type 0
IsWholeAt None disk u = ⊥
IsWholeAt (Some j) disk u = IsWhole disk (now j u)

-- the minidisk of a side
abbrev pub minidisk_of : Minidisk → Minidisk → Side → Minidisk
minidisk_of before after Before = before
minidisk_of before after After = after

-- the change had this outcome, and the disk d has the minidisk of this side then
pub record Ended (old new : Told) (d : Accessed) (m : Minidisk) (change : Change) (stamp : Stamp) (side : Side) (o : Outcome) : Type 0 where
  pub after : Minidisk
  pub answer : answer_of m change ≡ Changed after
  pub later : Journal
  pub told : new ≡ Some later
  pub minidisk : IsMinidisk later d (minidisk_of m after side)
  pub changes : Changes old new d.volume.disk d.volume.unit m change stamp o

-- the minidisk is changed; the disk d is the new one
abbrev pub Altered : Told → Told → Accessed → Minidisk → Change → Stamp → Type 0
Altered old new d m change stamp = Ended old new d m change stamp After Good

-- the device failed before the label was written, and the minidisk is as before
abbrev pub Kept : Told → Told → Accessed → Minidisk → Change → Stamp → Type 0
Kept old new d m change stamp = Ended old new d m change stamp Before OldFault

-- the device failed then, and the contents have the minidisk of this side
pub record Doubted (old new : Told) (d : Accessed) (m : Minidisk) (change : Change) (stamp : Stamp) : Type 0 where
  pub after : Minidisk
  pub answer : answer_of m change ≡ Changed after
  pub side : Side
  pub left : HasState new d.volume.disk d.volume.unit (named (Volume m) (Volume after) side)
  pub whole : IsWholeAt new d.volume.disk d.volume.unit
  pub changes : Changes old new d.volume.disk d.volume.unit m change stamp (EitherFault side)

-- ---- what a change comes to

-- the file that is changed isn't there
abbrev pub IsMissing : Minidisk → Change → Type 0
IsMissing m (Drop name) = file_named name m.files ≡ None
IsMissing m (Rename from to number) = file_named from m.files ≡ None
IsMissing m (Put new) = ⊥
IsMissing m (Add name more stamp) = file_named name m.files ≡ None
IsMissing m (Relabel volid) = ⊥
IsMissing m (Century pivot) = ⊥

-- the new name is another file's
abbrev pub IsTaken : Minidisk → Change → Type 0
IsTaken m (Rename from to number) = (from ≡ to → ⊥) × ((f : File) × (file_named to m.files ≡ Some f))
IsTaken m (Put new) = ⊥
IsTaken m (Add name more stamp) = ⊥
IsTaken m (Drop name) = ⊥
IsTaken m (Relabel volid) = ⊥
IsTaken m (Century pivot) = ⊥

-- what a change of the minidisk m, with this stamp, comes to, where d is the disk before it and e the disk then
abbrev pub Alters : Told → Told → Accessed → Accessed → Minidisk → Change → Stamp → Result ⊤ DiskFault → Type 0
Alters old new d e m change stamp (Ok x) = Altered old new e m change stamp
Alters old new d e m change stamp (Err failed.NotFound) = (new ≡ old) × IsMissing m change
Alters old new d e m change stamp (Err failed.Exists) = (new ≡ old) × IsTaken m change
Alters old new d e m change stamp (Err failed.ReadOnly) = (new ≡ old) × (d.writable ≡ false)
Alters old new d e m change stamp (Err failed.Device) = Kept old new e m change stamp
Alters old new d e m change stamp (Err failed.InDoubt) = Doubted old new d m change stamp
Alters old new d e m change stamp (Err failed.Altered) = ⊥
Alters old new d e m change stamp (Err (failed.Limit k)) = (new ≡ old) × (answer_of m change ≡ Limited k)
Alters old new d e m change stamp (Err (failed.Full need free)) = (new ≡ old) × (answer_of m change ≡ model.Full need free)
Alters old new d e m change stamp (Err failed.Memory) = new ≡ old

-- a read failed before anything was written, of a change that isn't refused
pub record Unread (old new : Told) (d : Accessed) (m : Minidisk) (change : Change) (stamp : Stamp) : Type 0 where
  pub same : new ≡ old
  pub after : Minidisk
  pub answer : answer_of m change ≡ Changed after
  pub changes : Changes old new d.volume.disk d.volume.unit m change stamp (ReadFault 0)

-- what it comes to that records are added to a file, of which the last blocks are read first
abbrev pub Appends : Told → Told → Accessed → Accessed → Minidisk → Change → Stamp → Result ⊤ DiskFault → Type 0
Appends old new d e m change stamp (Err failed.Device) = Unread old new d m change stamp ⊎ Kept old new e m change stamp
Appends old new d e m change stamp result = Alters old new d e m change stamp result

-- it is on the same unit, and may be written as before
pub record IsOnSame (d e : Accessed) : Type 0 where
  pub vdev : e.vdev ≡ d.vdev
  pub writable : e.writable ≡ d.writable
  pub unit : e.volume.unit ≡ d.volume.unit
  pub disk : e.volume.disk ≡ d.volume.disk

-- the device failed
abbrev pub IsDevices : DiskFault → Type 0
IsDevices e = (e ≡ failed.Device) ⊎ (e ≡ failed.InDoubt)

-- a call that changes a minidisk: units were changed and nothing else was done; it is on the same unit, and unless it is in doubt a refusal
-- leaves it as before but for its spare places
pub record ChangesDisk (before now : Seen) (d e : Accessed) (result : Result ⊤ DiskFault) : Type 0 where
  pub units : ChangesUnits before now IsDevices result
  pub same : IsOnSame d e
  pub kept : IfErr result (λ why. (why ≡ failed.InDoubt → ⊥) → e ≡ record d { spare = e.spare })

-- what is answered where the device failed while a change was carried out
abbrev pub fault_of : Doubt → DiskFault
fault_of Old = failed.Device
fault_of Either = failed.InDoubt

-- and where it wasn't planned
abbrev pub refusal_of : PlanFault → DiskFault
refusal_of (unplanned.Limit which) = failed.Limit which
refusal_of (unplanned.Full need free) = failed.Full need free
refusal_of unplanned.Memory = failed.Memory

-- and where an addition wasn't
abbrev pub more_refusal_of : MoreFault → DiskFault
more_refusal_of (unmade.Limit which) = failed.Limit which
more_refusal_of (unmade.Full need free) = failed.Full need free
more_refusal_of unmade.Device = failed.Device
more_refusal_of unmade.Memory = failed.Memory

-- ---- what is held then, in every world

-- one of these files, of this name, goes, and the last takes its place
pub record IsErased (files : List HeldFile) (name : Name) (news : List HeldFile) : Type 0 where
  pub place : ℕ
  pub file : HeldFile
  pub there : slice_get files place ≡ Some file
  pub named : file.entry.name ≡ name
  pub are : news ≡ swap_remove files place file

-- one of them, of this name, has another name and mode number
pub record IsRenamed (files : List HeldFile) (from to : Name) (number : ℕ) (news : List HeldFile) : Type 0 where
  pub place : ℕ
  pub file : HeldFile
  pub there : slice_get files place ≡ Some file
  pub named : file.entry.name ≡ from
  pub are : news ≡ slice_set files place (renamed to number file)

-- the files behind a change, where no file is put
abbrev pub FilesThen : List HeldFile → Change → List HeldFile → Type 0
FilesThen files (Drop name) news = IsErased files name news
FilesThen files (Rename from to number) news = IsRenamed files from to number news
FilesThen files (Relabel volid) news = news ≡ files
FilesThen files (Century pivot) news = news ≡ map (moved_file pivot) files
FilesThen files (Put new) news = ⊥
FilesThen files (Add name more stamp) news = ⊥

-- the volume has this volume id, and as many blocks and lost ones as before
pub record IsSameBut (v : HeldVolume) (volid : List ℕ) (w : HeldVolume) : Type 0 where
  pub volid_is : w.label.volid ≡ volid
  pub blocks : w.label.blocks ≡ v.label.blocks
  pub lost : w.lost ≡ v.lost

-- a change was made of a volume that is held
pub record HeldThen (v : HeldVolume) (change : Change) (w : HeldVolume) : Type 0 where
  pub files : FilesThen v.files change w.files
  pub same : IsSameBut v (model.changed_volid v.label.volid change) w

-- a file of a name and shape, over some blocks, was put: in the place of the one of that name, or last
pub record IsPutIn (v : HeldVolume) (name : Name) (shape : DraftShape) (w : HeldVolume) : Type 0 where
  pub tree : HeldTree
  pub start : ℕ
  pub files : w.files ≡ list_with v.files (place_of name v) (file_for v.disk.bsize name shape tree start)
  pub same : IsSameBut v v.label.volid w

-- ---- why a change is refused, in every world

-- the free blocks that a change needs: those of the new directory and the new map, and none for another volume id
abbrev pub needed_for : HeldVolume → asked.Change → ℕ
needed_for v (ask.Drop name) =
    needed v (length v.files - 1) (made_without (unwrap_or (place_of name.now v) 0) (length v.files))
needed_for v (ask.Rename from to number) = needed v (length v.files) (made_at (unwrap_or (place_of from.now v) 0))
needed_for v (ask.Relabel volid) = 0
needed_for v (ask.Century pivot) = needed v (length v.files) (all_entries (length v.files))

-- why a change of a writable minidisk whose file is there is refused, where it needs so many free blocks: there are fewer, there is no
-- memory, or the device failed
abbrev pub IsChangeFault : HeldVolume → ℕ → DiskFault → Type 0
IsChangeFault v need (failed.Full needs free) = (needs ≡ need) × (free ≡ length (free_blocks v.bits)) × (free < needs)
IsChangeFault v need failed.Memory = ⊤
IsChangeFault v need failed.Device = ⊤
IsChangeFault v need failed.InDoubt = ⊤
IsChangeFault v need failed.NotFound = ⊥
IsChangeFault v need failed.Exists = ⊥
IsChangeFault v need failed.ReadOnly = ⊥
IsChangeFault v need failed.Altered = ⊥
IsChangeFault v need (failed.Limit k) = ⊥

-- Files that are put onto the disk of a letter, and records that are added to a file of it.
use Rattle.std.specs.Prelude.{◌≡◌, ℕ, true, List, None, Some, Result, ⊤}
use Rattle.std.specs.Option.{ForSome}
use Rattle.cms_journal.specs.Journal.{Journal, IsWritable}
use Rattle.cms_journal.specs.Told.{Told}
use Rattle.cms_names.specs.declared.name.Name.{Name}
use Rattle.cms_fields.specs.Moments.{stamp_of}
use Rattle.cms_fields.specs.declared.time.Stamp.{Stamp}
use Rattle.cms_model.specs.Changes.{Change, Put, Add}
use Rattle.cms_model.specs.Minidisks.{Minidisk}
use Rattle.cms_model.specs.declared.file.FileData.{FileData}
use Rattle.cms_model.specs.Slots.{Slot}
use Rattle.cms_held.specs.HeldVolumes.{HeldVolume}
use Rattle.cms_world.specs.Seen.{Seen}
use Rattle.cms_disk.specs.Additions.{FitsFile}
use Rattle.cms_disk.specs.Changes.{Appends, ChangesDisk}
use Rattle.cms_disk.specs.Disks.{Accessed, IsMinidisk, IsReadable, place_of}
use Rattle.cms_disk.specs.Drafts.{file_with, shape_of}
use Rattle.cms_disk.specs.declared.fault.DiskFault.{DiskFault}
use Rattle.cms_search.specs.Calls.{Spot, holds}
use Rattle.cms_search.specs.Searches.{item_at}
use Rattle.cms_search.specs.Seats.{HasDisk}
use Rattle.cms_search.specs.Tables.{AccessTable, Seated}
use Rattle.cms_search.specs.declared.file_write.FileWrite.{FileWrite}
use Rattle.cms_search.specs.declared.file_write.FileWrite.TheVariants as update

-- the data of the file, or of the records
abbrev pub data_of : FileWrite → FileData
data_of (update.Put file) = file.now
data_of (update.New file) = file.now
data_of (update.Append place more) = more.now

-- the change that it is, where its data stand for these records
abbrev pub change_with : Name → FileWrite → List (List ℕ) → Change
change_with name (update.Put file) records = Put (file_with name (shape_of file.now) records)
change_with name (update.New file) records = Put (file_with name (shape_of file.now) records)
change_with name (update.Append place more) records = Add name records more.now.stamp

-- there is no file of a new one's name; records are added to the file in its place, as it has them
abbrev pub FitsUpdate : HeldVolume → Name → FileWrite → Type 0
FitsUpdate v name (update.Put file) = ⊤
FitsUpdate v name (update.New file) = place_of name v ≡ None
FitsUpdate v name (update.Append place more) = (place_of name v ≡ Some place) × FitsFile v name more.now

-- the update fits, and the disk's blocks may be read, and written where the disk may be
pub record MayUpdate (told : Told) (d : Accessed) (name : Name) (u : FileWrite) : Type 0 where
  pub fits : FitsUpdate d.volume name u
  pub blocks : ForSome told (λ j. IsReadable j d)
  pub writable : d.writable ≡ true → ForSome told (λ j. IsWritable j.units d.volume.unit)

-- what an update of a minidisk said, where d is the disk before it and e the disk then
pub record UpdatesTo (before now : Seen) (d e : Accessed) (change : Change) (stamp : Stamp) (result : Result ⊤ DiskFault) : Type 0 where
  pub appends : (j : Journal) (m : Minidisk) → before.told ≡ Some j → IsMinidisk j d m
      → Appends before.told now.told d e m change stamp result
  pub changes : ChangesDisk before now d e result

-- the disk of letter n, which is that of s, was updated so
abbrev pub UpdatesSeat : Seen → Seen → AccessTable → AccessTable → ℕ → Seated → Change → Stamp → Result ⊤ DiskFault → Type 0
UpdatesSeat before now t t' n s change stamp result = HasDisk t t' n (λ e. UpdatesTo before now s.disk e change stamp result)

-- ---- as a command's step

-- what an update of a minidisk came to between two spots, with the stamp of the turn's moment; the change may depend on what is on the
-- units
pub record UpdatesBy (old mid : Spot) (d e : Accessed) (change : List Slot → Change) (r : Result ⊤ DiskFault) : Type 0 where
  pub appends : (units : List Slot) → holds old units → (j : Journal) (m : Minidisk) → old.world.told ≡ Some j → IsMinidisk j d m
      → Appends old.world.told mid.world.told d e m (change units) (stamp_of old.state.moment) r
  pub changes : ChangesDisk old.world mid.world d e r

-- the disk s of letter n was updated so; mid is behind that
pub record Updated (old mid : Spot) (n : ℕ) (s : Seated) (change : List Slot → Change) (r : Result ⊤ DiskFault) : Type 0 where
  pub there : item_at old.state.table.seats n ≡ Some s
  pub seat : HasDisk old.state.table mid.state.table n (λ e. UpdatesBy old mid s.disk e change r)
  pub state : mid.state ≡ record old.state { table = mid.state.table }

-- Minidisks on the units of a world.
use Rattle.std.specs.Prelude.{◌≡◌, ◌⊎◌, ◌≤◌, ℕ, Bool, true, false, length, position, slice_get, Option, None, Some, IsSome, Result, Ok, Err, ⊤}
use Rattle.cms_journal.specs.declared.event.Event.TheVariants.{Synced}
use Rattle.cms_journal.specs.Journal.{Journal, HasBlocks, adds}
use Rattle.cms_journal.specs.Told.{Told}
use Rattle.cms_names.specs.declared.name.Name.{Name}
use Rattle.cms_fields.specs.Limits.{longest_record, most_records}
use Rattle.cms_fields.specs.Stamps.{is_stamp}
use Rattle.cms_model.specs.Trees.{Image}
use Rattle.cms_model.specs.Minidisks.{File, Minidisk, Not, same_name}
use Rattle.cms_model.specs.Records.{stored}
use Rattle.cms_model.specs.Volumes.{Disk, Opened, open_of, minidisk_of, reason}
use Rattle.cms_model.specs.Changes.{file_named}
use Rattle.cms_model.specs.Settled.{IsSettled, IsFirm}
use Rattle.cms_model.specs.LawsSizes.{IsWhole}
use Rattle.cms_model.specs.LawsUpdates.{now}
use Rattle.cms_model.specs.declared.fault.OpenFault.{OpenFault}
use Rattle.cms_model.specs.declared.fault.OpenFault.TheVariants as failed
use Rattle.cms_held.specs.HeldVolumes.{HeldFile, HeldVolume, IsFaultOf, held_of, names_in}
use Rattle.cms_held.specs.HeldAs.{IsHeldAs}
use Rattle.cms_held.specs.HeldTrees.{TreesStand}
use Rattle.cms_edf.specs.declared.held.FileInfo.{FileInfo}
use Rattle.cms_disk.specs.CrashStates.{LooksAs}
use Rattle.cms_disk.specs.Cursors.{Cursor, IsFirst, HasLeft}
use Rattle.cms_disk.specs.declared.fault.AccessFault.{AccessFault}
use Rattle.cms_disk.specs.declared.fault.AccessFault.TheVariants.{Sync, Open}
use Rattle.cms_disk.specs.declared.unit.UnitInfo.{UnitInfo}

-- an accessed volume: its device, whether it may be written, the volume as it is held, and for how many more files there is room with
-- no more memory
pub record Accessed : Type 0 where
  pub vdev : ℕ
  pub writable : Bool
  pub volume : HeldVolume
  pub spare : ℕ

-- what is looked at of a unit
abbrev pub disk_on : UnitInfo → Disk
disk_on unit = record { bsize = unit.bsize; count = unit.unit.blocks }

-- it is on this unit
pub record IsOn (unit : UnitInfo) (d : Accessed) : Type 0 where
  pub vdev : d.vdev ≡ unit.vdev
  pub writable : d.writable ≡ unit.writable
  pub number : d.volume.unit ≡ unit.unit.number
  pub disk : d.volume.disk ≡ disk_on unit

-- the blocks of its unit may be read
abbrev pub IsReadable : Journal → Accessed → Type 0
IsReadable j d = HasBlocks j.units d.volume.unit d.volume.disk.count d.volume.disk.bsize

-- what is looked at of its unit is what an attached unit shows: blocks of its size, and at most 1,048,576 of them
abbrev pub IsLookedAt : Journal → Accessed → Type 0
IsLookedAt j d = LooksAs j d.volume.unit d.volume.disk

-- ---- what is told of its files

-- it is told of a file: its mode number is 0 to 6, its stamp is valid, it has 1 to 1,048,576 records, and the longest of them 1 to 65,535 bytes
pub record IsFileInfo (info : FileInfo) : Type 0 where
  pub number : info.number ≤ 6
  pub stamp : is_stamp info.stamp ≡ true
  pub some : 1 ≤ info.length
  pub short : info.length ≤ longest_record
  pub records : 1 ≤ info.count
  pub few : info.count ≤ most_records

-- ---- the minidisk that it is

-- in this image of its unit, whose blocks have their size, it is this minidisk
pub record StandsIn (image : Image) (d : Accessed) (m : Minidisk) : Type 0 where
  pub whole : IsWhole d.volume.disk image
  pub opened : Opened
  pub opens : open_of d.volume.disk image ≡ Ok opened
  pub volume_is : IsHeldAs d.volume.unit d.volume.disk image opened d.volume
  pub minidisk_is : m ≡ minidisk_of d.volume.disk opened

-- the file at a place has so many stored bytes in each image in which it is a minidisk
abbrev pub HasStored : Accessed → ℕ → ℕ → Type 0
HasStored d nth bytes = (image : Image) (m : Minidisk) (f : File) → StandsIn image d m → slice_get m.files nth ≡ Some f
    → bytes ≡ length (stored f.format f.records)

-- at a journal it is this minidisk, its trees stand, and its unit is settled at it
pub record IsMinidisk (j : Journal) (d : Accessed) (m : Minidisk) : Type 0 where
  pub stands : StandsIn (now j d.volume.unit) d m
  pub settled : IsSettled d.volume.disk j d.volume.unit stands.opened
  pub trees : TreesStand d.volume (now j d.volume.unit)

-- a unit is quiet: it is settled at a volume, or is none for the same reason in every crash image
abbrev pub IsQuiet : Disk → Journal → ℕ → Type 0
IsQuiet disk j u = ((v : Opened) × IsSettled disk j u v) ⊎ ((k : ℕ) × IsFirm disk j u (Not k))

-- what always holds of one: it is the volume of its unit
pub record IsVolumeOf (unit : UnitInfo) (v : HeldVolume) : Type 0 where
  pub number : v.unit ≡ unit.unit.number
  pub disk : v.disk ≡ disk_on unit

-- ---- an access

-- the device failed: with the sync, or with a read
abbrev pub IsDevices : AccessFault → Type 0
IsDevices e = (e ≡ Sync) ⊎ (e ≡ Open failed.Device)

-- the volume that opens in this image, or the first test that fails
abbrev pub AnswersAccess : UnitInfo → Image → Result Accessed AccessFault → Type 0
AnswersAccess unit image (Ok d) = (v : Opened) × (open_of (disk_on unit) image ≡ Ok v)
    × (d.volume ≡ held_of unit.unit.number (disk_on unit) image v)
AnswersAccess unit image (Err (Open why)) = IsFaultOf (open_of (disk_on unit) image) why
AnswersAccess unit image (Err Sync) = ⊤

-- what is told with a sync of a unit, where it was in doubt
abbrev pub synced : Bool → ℕ → Told → Told
synced true u told = adds (Synced u) told
synced false u told = told

-- what is told where the access was refused
abbrev pub told_with : AccessFault → Bool → ℕ → Told → Told
told_with Sync doubt u told = told
told_with (Open why) doubt u told = synced doubt u told

-- where the volume doesn't open for a reason, every crash image is none for that reason
abbrev pub IsRefused : Disk → Journal → ℕ → OpenFault → Type 0
IsRefused disk j u failed.Device = IsQuiet disk j u
IsRefused disk j u failed.Memory = IsQuiet disk j u
IsRefused disk j u (failed.Label k) = IsFirm disk j u (Not (reason (failed.Label k)))
IsRefused disk j u (failed.Entry n k) = IsFirm disk j u (Not (reason (failed.Entry n k)))
IsRefused disk j u (failed.Pointer holder value) = IsFirm disk j u (Not (reason (failed.Pointer holder value)))
IsRefused disk j u (failed.Crossed n) = IsFirm disk j u (Not (reason (failed.Crossed n)))
IsRefused disk j u (failed.MapMissing n) = IsFirm disk j u (Not (reason (failed.MapMissing n)))
IsRefused disk j u (failed.Var n k) = IsFirm disk j u (Not (reason (failed.Var n k)))
IsRefused disk j u (failed.Twice n) = IsFirm disk j u (Not (reason (failed.Twice n)))
IsRefused disk j u (failed.System n) = IsFirm disk j u (Not (reason (failed.System n)))

-- how an access leaves the unit: settled at the minidisk, or refused; nothing is said where the sync failed
abbrev pub IsLeft : Disk → Journal → ℕ → Result Accessed AccessFault → Type 0
IsLeft disk j u (Ok d) = (m : Minidisk) × IsMinidisk j d m
IsLeft disk j u (Err (Open why)) = IsRefused disk j u why
IsLeft disk j u (Err Sync) = ⊤

-- ---- files by their names

-- the place of the file of a name
abbrev pub place_of : Name → HeldVolume → Option ℕ
place_of name v = position (same_name name) (names_in v.files)

-- the name that a file is to have is another file's
abbrev pub IsOthers : Name → Name → HeldVolume → Type 0
IsOthers from to v = (from ≡ to → ⊥) × IsSome (place_of to v)

-- the file at a place is read from its first record on
abbrev pub FirstIn : HeldVolume → ℕ → Cursor → Type 0
FirstIn v place c = (file : HeldFile) × (slice_get v.files place ≡ Some file)
    × IsFirst v.unit v.disk.count v.disk.bsize file.tree.leaves file.entry.format file.length file.entry.count c

-- the file of a name is read from its first record on
pub record StartsAt (name : Name) (v : HeldVolume) (c : Cursor) : Type 0 where
  pub place : ℕ
  pub place_is : place_of name v ≡ Some place
  pub file : HeldFile
  pub file_is : slice_get v.files place ≡ Some file
  pub first : IsFirst v.unit v.disk.count v.disk.bsize file.tree.leaves file.entry.format file.length file.entry.count c

-- all records of the file of a name are left to read, in this image
abbrev pub OpensFile : Image → Name → Minidisk → Cursor → Type 0
OpensFile image name m c = (f : File) × (file_named name m.files ≡ Some f) × HasLeft image c f.records

-- the cursor stands before the file of this name, in each image of which the disk holds the
-- minidisk
abbrev pub OpensIn : Accessed → Name → Cursor → Type 0
OpensIn d name c = (image : Image) (m : Minidisk) → StandsIn image d m → OpensFile image name m c

-- no file has this name
abbrev pub HasNone : Accessed → Name → Type 0
HasNone d name = (image : Image) (m : Minidisk) → StandsIn image d m → file_named name m.files ≡ None

-- What a volume that is held tells of the minidisk that it is.
use Rattle.std.specs.Prelude.{◌≡◌, ℕ, ◌*◌, List, length, map, position, slice_get, Option, None, Some, Ok}
use Rattle.cms_names.specs.declared.name.Name.{Name}
use Rattle.cms_text.specs.Bytes.{word}
use Rattle.cms_fields.specs.Entries.{entry_bytes}
use Rattle.cms_map.specs.Bits.{free_blocks}
use Rattle.cms_model.specs.Trees.{Image, bytes_at}
use Rattle.cms_model.specs.Records.{HoldRecords, length_of, records_of, stored}
use Rattle.cms_model.specs.Minidisks.{File, Minidisk, same_name}
use Rattle.cms_model.specs.Sizes.{free_count}
use Rattle.cms_model.specs.Volumes.{Disk, Opened, open_of, minidisk_of}
use Rattle.cms_model.specs.LawsChanges.{NoneNamed, IsPlace}
use Rattle.cms_model.specs.LawsRecords.{AreBytes}
use Rattle.cms_model.specs.LawsSizes.{IsWhole}
use Rattle.cms_held.specs.HeldVolumes.{HeldFile, HeldVolume, names_in}
use Rattle.cms_held.specs.HeldAs.{IsHeldAs}
use Rattle.cms_held.specs.Kept.{Keeps}

-- a file as it is held is this one of the minidisk: it has its fields and so many records, which are read from its data blocks in
-- this image
pub record IsFileOf (bsize : ℕ) (image : Image) (held : HeldFile) (f : File) : Type 0 where
  pub name_is : held.entry.name ≡ f.name
  pub number_is : held.entry.number ≡ f.number
  pub format_is : held.entry.format ≡ f.format
  pub length_is : held.length ≡ f.length
  pub stamp_is : held.entry.stamp ≡ f.stamp
  pub count_is : held.entry.count ≡ length f.records
  pub are_read : records_of bsize f.format f.length (length f.records) (bytes_at image held.tree.leaves) ≡ Ok f.records

-- a volume as it is held is this minidisk, whose files stand in the same order
pub record IsMinidiskOf (image : Image) (v : HeldVolume) (m : Minidisk) : Type 0 where
  pub volid_is : v.label.volid ≡ m.volid
  pub bsize_is : v.disk.bsize ≡ m.bsize
  pub total_is : v.label.blocks ≡ m.total
  pub lost_is : v.lost ≡ m.lost
  pub count_is : length v.files ≡ length m.files
  pub names_are : names_in v.files ≡ map (λ f. f.name) m.files
  pub files_are : (k : ℕ) (held : HeldFile) (f : File) → slice_get v.files k ≡ Some held → slice_get m.files k ≡ Some f
      → IsFileOf m.bsize image held f

-- what opens is held as the minidisk that it is
abbrev pub OpenedIsHeld : Type 0
OpenedIsHeld =
    (unit : ℕ) (disk : Disk) (image : Image) (v : Opened) (h : HeldVolume) → open_of disk image ≡ Ok v → IsHeldAs unit disk image v h
    → IsMinidiskOf image h (minidisk_of disk v)

-- the records of a file are stored in so many bytes, at the front of its data blocks
pub record IsStored (bsize : ℕ) (image : Image) (held : HeldFile) (f : File) : Type 0 where
  pub size_is : held.size ≡ length (stored f.format f.records)
  pub long : length (bytes_at image held.tree.leaves) ≡ length held.tree.leaves * bsize
  pub are_held : AreBytes (bytes_at image held.tree.leaves)
      → HoldRecords bsize f.format f.length (bytes_at image held.tree.leaves) f.records

-- a volume has as many free blocks as the minidisk, and stores the records of its files
pub record HasRoomOf (image : Image) (v : HeldVolume) (m : Minidisk) : Type 0 where
  pub free_is : length (free_blocks v.bits) ≡ free_count m
  pub files_are : (k : ℕ) (held : HeldFile) (f : File) → slice_get v.files k ≡ Some held → slice_get m.files k ≡ Some f
      → IsStored m.bsize image held f

-- so it is where the blocks of the image have their size
abbrev pub OpenedHasRoom : Type 0
OpenedHasRoom =
    (unit : ℕ) (disk : Disk) (image : Image) (v : Opened) (h : HeldVolume) → IsWhole disk image → open_of disk image ≡ Ok v
    → IsHeldAs unit disk image v h → HasRoomOf image h (minidisk_of disk v)

-- the 64 bytes that are written for the entry of each file tell the length of its records, at V of the longest
abbrev pub EntriesTellLengths : Type 0
EntriesTellLengths =
    (unit : ℕ) (disk : Disk) (image : Image) (v : Opened) (h : HeldVolume) (k : ℕ) (held : HeldFile) (f : File)
    → open_of disk image ≡ Ok v → IsHeldAs unit disk image v h → Keeps h → slice_get h.files k ≡ Some held
    → slice_get (minidisk_of disk v).files k ≡ Some f
    → word (entry_bytes held.entry) 32 ≡ length_of f.format f.length f.records

-- the place of a name among the names of files, or that it is none of theirs
abbrev pub IsFound : Name → List File → Option ℕ → Type 0
IsFound name files None = NoneNamed name files
IsFound name files (Some k) = IsPlace name files k

-- a name's place is that of its file, and none exactly where no file has it
abbrev pub PlaceIsTold : Type 0
PlaceIsTold = (name : Name) (files : List File) → IsFound name files (position (same_name name) (map (λ f. f.name) files))

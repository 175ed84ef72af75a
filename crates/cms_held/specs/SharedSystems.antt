-- The directory, the map and the label as they are read behind an update that writes a part of
-- them.
use Rattle.std.specs.Prelude.{◌≡◌, ℕ, ◌*◌, ◌/◌, Bool, List, length, take, drop, Some, None}
use Rattle.cms_journal.specs.Journal.{Journal}
use Rattle.cms_names.specs.declared.name.Format.TheVariants.{F}
use Rattle.cms_fields.specs.Numbers.{up}
use Rattle.cms_fields.specs.declared.entry.Entry.{Entry}
use Rattle.cms_fields.specs.declared.time.Stamp.{Stamp}
use Rattle.cms_model.specs.Built.{ReadsAs}
use Rattle.cms_model.specs.LawsUpdates.{now}
use Rattle.cms_model.specs.Sizes.{levels}
use Rattle.cms_model.specs.Stands.{Layout}
use Rattle.cms_model.specs.Trees.{Image, Met, bytes_at, form_of}
use Rattle.cms_model.specs.Volumes.{Disk, HoldsSystem}
use Rattle.cms_map.specs.Bits.{bits_in, bytes_from}
use Rattle.cms_tree.specs.Builds.{root_of}
use Rattle.cms_held.specs.LawsRenewals.{IsHeldAt}
use Rattle.cms_held.specs.HeldVolumes.{HeldVolume}
use Rattle.cms_held.specs.Renewals.{entries_held}
use Rattle.cms_held.specs.Written.{all_read}
use Rattle.cms_held.specs.Systems.{IsLaidOut, IsTree, Systems, directory_bytes_of, directory_file, map_file}
use Rattle.cms_model.specs.DirectoryParts.{directory_count}
use Rattle.cms_held.specs.EntryPlaces.{HasEntries, IsEnoughFor}
use Rattle.cms_held.specs.MapPlaces.{BitsStay, SaysMap}
use Rattle.cms_held.specs.SharedBlocks.{AreLong, SharesBlocks}

-- ---- before the update

-- in these data blocks an image has a directory of these entries, and a map that says these bits
-- of so many blocks
pub record HasSystems (disk : Disk) (image : Image) (total : ℕ) (directory map : List ℕ)
    (entries : List Entry) (bits : List Bool) :
    Type 0 where
  pub directory_long : AreLong disk.bsize image directory
  pub directory_is : length directory ≡ directory_count disk.bsize (length entries)
  pub entries_are : HasEntries disk.bsize image directory entries
  pub map_long : AreLong disk.bsize image map
  pub map_count : length map ≡ up (up total 8) disk.bsize
  pub bits_are : bits_in total (bytes_at image map) ≡ bits

-- a unit that is settled at a volume has those of the volume as it is held
abbrev pub HeldHasSystems : Type 0
HeldHasSystems =
    (j : Journal) (v : HeldVolume) (old : Layout) → IsHeldAt j v old
    → HasSystems v.disk (now j v.unit) v.label.blocks v.directory.leaves v.map.leaves
    (entries_held v.files) v.bits

-- ---- behind it

-- what an update leaves in an image: the label; of the directory and of the map the data blocks
-- that it writes, and the others as they were; and both trees
pub record LeavesParts (disk : Disk) (before later : Image) (olds maps : List ℕ) (s : Systems)
    (entries : List Entry) (stamp : Stamp) (directory_written map_written : List ℕ) :
    Type 0 where
  pub label : later 3 ≡ s.label_bytes
  pub directory : SharesBlocks before later olds s.directory.leaves directory_written
      (λ j. take disk.bsize (drop (j * disk.bsize) (directory_bytes_of disk.bsize s entries stamp)))
  pub map : SharesBlocks before later maps s.map.leaves map_written
      (λ j. bytes_from (j * disk.bsize) disk.bsize s.bits)
  pub directory_tree : ReadsAs (form_of disk.bsize s.label.blocks F) later
      (levels (disk.bsize / 4) (length s.directory.leaves)) (Some s.label.origin) s.label.origin
      (root_of s.directory.leaves s.directory.pointers) s.directory.leaves s.directory.pointers
  pub map_tree : ReadsAs (form_of disk.bsize s.label.blocks F) later
      (levels (disk.bsize / 4) (length s.map.leaves)) None s.label.origin
      (root_of s.map.leaves s.map.pointers) s.map.leaves s.map.pointers

-- what is read in an image of the label, the directory and the map: the map's bytes may be any
-- that say its bits
pub record ReadsParts (disk : Disk) (image : Image) (s : Systems) (entries : List Entry) :
    Type 0 where
  pub directory : Met
  pub map : Met
  pub holds : (mets : List Met) (contents : List (List (List ℕ))) (lost : ℕ)
      → HoldsSystem disk image (record {
        label = s.label;
        directory = directory_file disk.bsize s (length entries);
        directory_met = directory;
        map = map_file disk.bsize s;
        map_met = map;
        entries = all_read entries;
        mets = mets;
        contents = contents;
        lost = lost;
      })
  pub directory_is : IsTree s.directory directory
  pub map_is : IsTree s.map map
  pub says : SaysMap s.label.blocks s.bits (bytes_at image map.leaves)

-- what was written and what was kept are read together
abbrev pub ShareIsRead : Type 0
ShareIsRead =
    (disk : Disk) (before later : Image) (olds maps : List ℕ) (s : Systems)
    (old_entries entries : List Entry) (old_bits : List Bool) (stamp : Stamp)
    (directory_written map_written : List ℕ)
    → IsLaidOut disk s entries
    → HasSystems disk before s.label.blocks olds maps old_entries old_bits
    → IsEnoughFor disk.bsize old_entries entries directory_written
    → BitsStay disk.bsize s.label.blocks map_written old_bits s.bits
    → LeavesParts disk before later olds maps s entries stamp directory_written map_written
    → ReadsParts disk later s entries

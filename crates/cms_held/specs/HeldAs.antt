-- A volume as it is held, after an opening or an update.
use Rattle.std.specs.Prelude.{◌≡◌, ℕ, List, [], ◌∷◌, Ok, ⊤}
use Rattle.cms_fields.specs.declared.entry.Entry.{Entry}
use Rattle.cms_map.specs.Bits.{bits_in}
use Rattle.cms_model.specs.Records.{length_of}
use Rattle.cms_model.specs.Trees.{Image, Met, bytes_at}
use Rattle.cms_model.specs.Volumes.{Disk, Opened, as_read, open_of}
use Rattle.cms_held.specs.HeldVolumes.{HeldFile, HeldVolume, size_of, held_of}
use Rattle.cms_held.specs.Systems.{IsTree}

-- the file of an entry that was read, with this tree and these records; the entry that is held tells their length, at V of the longest
pub record IsHeldFile (e : Entry) (met : Met) (records : List (List ℕ)) (h : HeldFile) : Type 0 where
  pub entry_is : as_read h.entry ≡ e
  pub told_is : h.entry.length ≡ h.length
  pub tree_is : IsTree h.tree met
  pub length_is : h.length ≡ length_of e.format e.length records
  pub size_is : h.size ≡ size_of e.format e.length e.count records

-- the files of these entries, one by one
abbrev pub AreHeld : List Entry → List Met → List (List (List ℕ)) → List HeldFile → Type 0
AreHeld [] mets contents [] = ⊤
AreHeld [] mets contents (h ∷ hs) = ⊥
AreHeld (e ∷ es) [] contents hs = ⊥
AreHeld (e ∷ es) (met ∷ mets) [] hs = ⊥
AreHeld (e ∷ es) (met ∷ mets) (records ∷ more) [] = ⊥
AreHeld (e ∷ es) (met ∷ mets) (records ∷ more) (h ∷ hs) = IsHeldFile e met records h × AreHeld es mets more hs

-- the volume of a unit that opens in this image, with the pointer blocks of each tree in any order
pub record IsHeldAs (unit : ℕ) (disk : Disk) (image : Image) (v : Opened) (h : HeldVolume) : Type 0 where
  pub unit_is : h.unit ≡ unit
  pub disk_is : h.disk ≡ disk
  pub label_is : h.label ≡ v.label
  pub bytes_are : h.label_bytes ≡ image 3
  pub directory_is : IsTree h.directory v.directory_met
  pub map_is : IsTree h.map v.map_met
  pub bits_are : h.bits ≡ bits_in v.label.blocks (bytes_at image v.map_met.leaves)
  pub files_are : AreHeld v.entries v.mets v.contents h.files
  pub lost_is : h.lost ≡ v.lost

-- what opens is held so
abbrev pub OpenedHasHeld : Type 0
OpenedHasHeld =
    (unit : ℕ) (disk : Disk) (image : Image) (v : Opened) → open_of disk image ≡ Ok v
    → IsHeldAs unit disk image v (held_of unit disk image v)

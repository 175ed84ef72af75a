-- An open volume file by file, and how an update exchanges its blocks.
use Rattle.std.specs.Prelude.{◌≡◌, ◌≢◌, ◌⊎◌, ℕ, ◌-◌, ◌≤◌, Bool, true, false, not, ◌&&◌, ◌||◌, List, [], ◌∷◌, ◌++◌, map, None, Ok, ⊤}
use Rattle.cms_names.specs.declared.name.Name.{Name}
use Rattle.cms_fields.specs.declared.entry.Entry.{Entry}
use Rattle.cms_fields.specs.declared.label.Label.{Label}
use Rattle.cms_model.specs.Lists.{holds, times}
use Rattle.cms_model.specs.Trees.{Image, Met, form_of, tree, bytes_at}
use Rattle.cms_model.specs.Records.{records_of, length_of}
use Rattle.cms_model.specs.Maps.{is_marked, lost_count}
use Rattle.cms_model.specs.Minidisks.{File, Minidisk}
use Rattle.cms_model.specs.Systems.{SystemFile}
use Rattle.cms_model.specs.Volumes.{Disk, Opened, HoldsSystem, open_of, minidisk_of}
use Rattle.cms_model.specs.Settled.{Agree}

-- a file with its entry, its tree and its records
pub record Kept : Type 0 where
  pub entry : Entry
  pub met : Met
  pub records : List (List ℕ)

-- the file that it is
abbrev pub file_of : Kept → File
file_of f = record {
  name = f.entry.name;
  number = f.entry.number;
  format = f.entry.format;
  length = length_of f.entry.format f.entry.length f.records;
  stamp = f.entry.stamp;
  records = f.records;
}

-- a volume of so many blocks, on a disk, has the file's tree and records in this image, wherever its entry stands
pub record HoldsFile (disk : Disk) (total : ℕ) (image : Image) (f : Kept) : Type 0 where
  pub met : (holder : ℕ) → tree (form_of disk.bsize total f.entry.format) image f.entry.levels None holder f.entry.root f.entry.blocks
      ≡ Ok f.met
  pub records : records_of disk.bsize f.entry.format f.entry.length f.entry.count (bytes_at image f.met.leaves) ≡ Ok f.records

-- each file is held, by its entry, its tree and its records
abbrev pub HoldsFiles : Disk → ℕ → Image → List Kept → Type 0
HoldsFiles disk total image [] = ⊤
HoldsFiles disk total image (f ∷ fs) = HoldsFile disk total image f × HoldsFiles disk total image fs

-- their entries, trees and records
abbrev pub entries_in : List Kept → List Entry
entries_in files = map (λ f. f.entry) files

-- the blocks of each file
abbrev pub mets_in : List Kept → List Met
mets_in files = map (λ f. f.met) files

-- the records of each file
abbrev pub records_in : List Kept → List (List (List ℕ))
records_in files = map (λ f. f.records) files

-- the blocks of the files' trees
unfoldable pub file_blocks : List Kept → List ℕ
file_blocks [] = []
file_blocks (f ∷ fs) = f.met.blocks ++ file_blocks fs

-- no file in front has this name
abbrev pub NoEntryNamed : Name → List Kept → Type 0
NoEntryNamed name [] = ⊤
NoEntryNamed name (f ∷ fs) = (f.entry.name ≢ name) × NoEntryNamed name fs

-- no two files have the same name
abbrev pub HaveNames : List Kept → Type 0
HaveNames [] = ⊤
HaveNames (f ∷ fs) = NoEntryNamed f.entry.name fs × HaveNames fs

-- a volume: its label, directory, map and files, and how many blocks are lost
pub record Layout : Type 0 where
  pub label : Label
  pub directory : SystemFile
  pub directory_met : Met
  pub map : SystemFile
  pub map_met : Met
  pub files : List Kept
  pub lost : ℕ

-- the blocks of all its trees
abbrev pub layout_blocks : Layout → List ℕ
layout_blocks v = v.directory_met.blocks ++ (v.map_met.blocks ++ file_blocks v.files)

-- the open volume that it is
abbrev pub opened : Layout → Opened
opened v = record {
  label = v.label;
  directory = v.directory;
  directory_met = v.directory_met;
  map = v.map;
  map_met = v.map_met;
  entries = entries_in v.files;
  mets = mets_in v.files;
  contents = records_in v.files;
  lost = v.lost;
}

-- the volume stands in the image: its parts are there, its names are distinct, no block stands twice, each is marked, and so
-- many are marked besides
pub record Stands (disk : Disk) (image : Image) (v : Layout) : Type 0 where
  pub system : HoldsSystem disk image (opened v)
  pub names : HaveNames v.files
  pub files : HoldsFiles disk v.label.blocks image v.files
  pub apart : (n : ℕ) → times n (layout_blocks v) ≤ 1
  pub marked : (n : ℕ) → 6 ≤ n → 1 ≤ times n (layout_blocks v) → is_marked (bytes_at image v.map_met.leaves) n ≡ true
  pub lost : lost_count (bytes_at image v.map_met.leaves) (layout_blocks v) 6 (v.label.blocks - 5) ≡ v.lost

-- a volume that stands opens
abbrev pub StandsOpens : Type 0
StandsOpens = (disk : Disk) (image : Image) (v : Layout) → Stands disk image v → open_of disk image ≡ Ok (opened v)

-- and what opens stands
abbrev pub OpenedStands : Type 0
OpenedStands = (disk : Disk) (image : Image) (o : Opened) → open_of disk image ≡ Ok o → (v : Layout) × Stands disk image v × (opened v ≡ o)

-- the minidisk that it is
abbrev pub minidisk_in : Disk → Layout → Minidisk
minidisk_in disk v = record {
  volid = v.label.volid;
  bsize = disk.bsize;
  total = v.label.blocks;
  lost = v.lost;
  files = map file_of v.files;
}

-- the minidisk of a volume that opened is that of its layout
abbrev pub OpenedIsMinidisk : Type 0
OpenedIsMinidisk = (disk : Disk) (v : Layout) → minidisk_of disk (opened v) ≡ minidisk_in disk v

-- ---- an update

-- each file is one of the old image whose blocks are as they were, or is held by the new image
abbrev pub Comes : Disk → ℕ → Image → Image → List Kept → Type 0
Comes disk total before later [] = ⊤
Comes disk total before later (f ∷ fs) =
    ((HoldsFile disk total before f × Agree f.met.blocks before later) ⊎ HoldsFile disk total later f) × Comes disk total before later fs

-- which blocks from 6 to the last are given back and taken, in the map and in the trees: what is taken was free, what is given back
-- was the volume's
pub record Exchange (last : ℕ) (old_map new_map old_blocks new_blocks : List ℕ) (released fresh : ℕ → Bool) : Type 0 where
  pub blocks : (n : ℕ) → 6 ≤ n → n ≤ last → holds new_blocks n ≡ ((holds old_blocks n && not (released n)) || fresh n)
  pub marks : (n : ℕ) → 6 ≤ n → n ≤ last → is_marked new_map n ≡ ((is_marked old_map n && not (released n)) || fresh n)
  pub free : (n : ℕ) → fresh n ≡ true → is_marked old_map n ≡ false
  pub had : (n : ℕ) → released n ≡ true → holds old_blocks n ≡ true

-- after an update with such an exchange the new volume stands
pub record IsRenewed (disk : Disk) (before later : Image) (old new : Layout) (released fresh : ℕ → Bool) : Type 0 where
  pub old_stands : Stands disk before old
  pub system : HoldsSystem disk later (opened new)
  pub total : new.label.blocks ≡ old.label.blocks
  pub lost : new.lost ≡ old.lost
  pub names : HaveNames new.files
  pub files : Comes disk new.label.blocks before later new.files
  pub apart : (n : ℕ) → times n (layout_blocks new) ≤ 1
  pub exchange : Exchange new.label.blocks (bytes_at before old.map_met.leaves) (bytes_at later new.map_met.leaves) (layout_blocks old)
      (layout_blocks new) released fresh

-- a volume that was renewed in blocks apart from the old ones stands
abbrev pub RenewedStands : Type 0
RenewedStands =
    (disk : Disk) (before later : Image) (old new : Layout) (released fresh : ℕ → Bool) → IsRenewed disk before later old new released fresh
    → Stands disk later new

-- A volume as it is held in memory, and what opening answers.
use Rattle.std.specs.Prelude.{◌≡◌, ℕ, ◌*◌, Bool, List, [], ◌∷◌, length, map, Result, Ok, Err, ⊤}
use Rattle.cms_names.specs.declared.name.Name.{Name}
use Rattle.cms_names.specs.declared.name.Format.{Format}
use Rattle.cms_names.specs.declared.name.Format.TheVariants.{F, V}
use Rattle.cms_fields.specs.declared.label.Label.{Label}
use Rattle.cms_fields.specs.declared.entry.Entry.{Entry}
use Rattle.cms_model.specs.Trees.{Image, Form, Met, form_of, bytes_at}
use Rattle.cms_model.specs.Records.{stored, length_of}
use Rattle.cms_model.specs.Systems.{SystemFile}
use Rattle.cms_model.specs.Volumes.{Disk, Opened, open_of}
use Rattle.cms_model.specs.declared.fault.OpenFault.{OpenFault}
use Rattle.cms_model.specs.declared.fault.OpenFault.TheVariants as failed
use Rattle.cms_map.specs.Bits.{bits_in}
use Rattle.cms_tree.specs.Walks.{nodes}
use Rattle.cms_held.specs.Marks.{start_of}

-- ---- a volume as it is held: all of it but the files' data

-- a tree: its data blocks in order, and its pointer blocks, bottom level first and each from left to right
pub record HeldTree : Type 0 where
  pub leaves : List ℕ
  pub pointers : List ℕ

-- a file: its entry, which tells the length of its records (of the longest at V), its tree, that length, how many bytes are stored of it, and
-- where at V the first record begins in the data block that they fill in part
pub record HeldFile : Type 0 where
  pub entry : Entry
  pub tree : HeldTree
  pub length : ℕ
  pub size : ℕ
  pub start : ℕ

-- a volume as it is held: all but its files' data
pub record HeldVolume : Type 0 where
  pub unit : ℕ
  pub disk : Disk
  pub label : Label
  pub label_bytes : List ℕ
  pub directory : HeldTree
  pub map : HeldTree
  pub bits : List Bool
  pub files : List HeldFile
  pub lost : ℕ

-- a volume, and for how many more files its holder has room with no more memory
pub record Held : Type 0 where
  pub volume : HeldVolume
  pub spare : ℕ

-- the names of files
abbrev pub names_in : List HeldFile → List Name
names_in files = map (λ f. f.entry.name) files

-- files, each under its name
abbrev pub by_name : List HeldFile → List (Name × HeldFile)
by_name files = map (λ f. (f.entry.name, f)) files

-- ---- how an open volume is held

-- the tree of so many levels at a root, with these blocks
abbrev pub held_tree : Form → Image → ℕ → ℕ → ℕ → Met → HeldTree
held_tree form image levels root count met = record { leaves = met.leaves; pointers = nodes form image levels root count }

-- the tree of the directory or the map, as it is held
abbrev pub held_system : ℕ → ℕ → Image → SystemFile → Met → HeldTree
held_system bsize total image file met = held_tree (form_of bsize total F) image file.levels file.root file.blocks met

-- how many bytes are stored of so many records: at F by their length, at V with the records' lengths
abbrev pub size_of : Format → ℕ → ℕ → List (List ℕ) → ℕ
size_of F size count records = count * size
size_of V size count records = length (stored V records)

-- a file as it is held: its entry tells the length of its records, at V of the longest, whatever was found there
abbrev pub held_file : ℕ → ℕ → Image → Entry → Met → List (List ℕ) → HeldFile
held_file bsize total image e met records = record {
  entry = record e { length = length_of e.format e.length records };
  tree = held_tree (form_of bsize total e.format) image e.levels e.root e.blocks met;
  length = length_of e.format e.length records;
  size = size_of e.format e.length e.count records;
  start = start_of bsize e.format records;
}

-- the files of these entries, with these trees and these records
unfoldable pub held_files : ℕ → ℕ → Image → List Entry → List Met → List (List (List ℕ)) → List HeldFile
held_files bsize total image [] mets contents = []
held_files bsize total image (e ∷ es) [] contents = []
held_files bsize total image (e ∷ es) (met ∷ mets) [] = []
held_files bsize total image (e ∷ es) (met ∷ mets) (records ∷ more) = held_file bsize total image e met records
    ∷ held_files bsize total image es mets more

-- the volume of a unit
unfoldable pub held_of : ℕ → Disk → Image → Opened → HeldVolume
held_of unit disk image v = record {
  unit = unit;
  disk = disk;
  label = v.label;
  label_bytes = image 3;
  directory = held_system disk.bsize v.label.blocks image v.directory v.directory_met;
  map = held_system disk.bsize v.label.blocks image v.map v.map_met;
  bits = bits_in v.label.blocks (bytes_at image v.map_met.leaves);
  files = held_files disk.bsize v.label.blocks image v.entries v.mets v.contents;
  lost = v.lost;
}

-- ---- what is answered

-- a fault that is found in the image too, or that isn't of the image
abbrev pub IsFaultOf : {A : Type 0} → Result A OpenFault → OpenFault → Type 0
IsFaultOf found failed.Device = ⊤
IsFaultOf found failed.Memory = ⊤
IsFaultOf found (failed.Label k) = found ≡ Err (failed.Label k)
IsFaultOf found (failed.Entry n k) = found ≡ Err (failed.Entry n k)
IsFaultOf found (failed.Pointer holder value) = found ≡ Err (failed.Pointer holder value)
IsFaultOf found (failed.Crossed n) = found ≡ Err (failed.Crossed n)
IsFaultOf found (failed.MapMissing n) = found ≡ Err (failed.MapMissing n)
IsFaultOf found (failed.Var n k) = found ≡ Err (failed.Var n k)
IsFaultOf found (failed.Twice n) = found ≡ Err (failed.Twice n)
IsFaultOf found (failed.System n) = found ≡ Err (failed.System n)

-- what is answered for this image of a unit: the volume that opens, as it is held, or the first test that fails
abbrev pub AnswersOpening : ℕ → Disk → Image → Result Held OpenFault → Type 0
AnswersOpening unit disk image (Ok held) = (v : Opened) × (open_of disk image ≡ Ok v) × (held.volume ≡ held_of unit disk image v)
AnswersOpening unit disk image (Err why) = IsFaultOf (open_of disk image) why

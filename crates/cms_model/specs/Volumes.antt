-- What the image of a unit stands for.
use Rattle.std.specs.Prelude.{◌≡◌, ℕ, ◌+◌, ◌-◌, min, true, if◌then◌else◌, nat_le, ◌/◌, List, [], ◌∷◌, ◌++◌, length, drop, slice_index, Option, Some, None, Result, Ok, Err}
use Rattle.cms_journal.specs.Limits.{most_blocks}
use Rattle.cms_journal.specs.declared.event.Attached.{Attached}
use Rattle.cms_names.specs.declared.name.Name.{Name}
use Rattle.cms_names.specs.declared.name.Format.{Format}
use Rattle.cms_names.specs.declared.name.Format.TheVariants.{F, V}
use Rattle.cms_fields.specs.Steps.{◌>>=◌, ◌>>◌, want}
use Rattle.cms_fields.specs.Labels.{label_of}
use Rattle.cms_fields.specs.Entries.{entry_of}
use Rattle.cms_fields.specs.declared.label.Label.{Label}
use Rattle.cms_fields.specs.declared.label.LabelFault.TheVariants.{Count}
use Rattle.cms_fields.specs.declared.entry.Entry.{Entry}
use Rattle.cms_model.specs.Lists.{cut, first_repeat}
use Rattle.cms_model.specs.Trees.{Image, Met, form_of, tree, bytes_at}
use Rattle.cms_model.specs.Records.{records_of, length_of}
use Rattle.cms_model.specs.Maps.{lowest_unmarked, lost_count}
use Rattle.cms_model.specs.Minidisks.{File, Minidisk, State, Volume, Not, is_named}
use Rattle.cms_model.specs.Systems.{SystemFile, directory_of, map_of}
use Rattle.cms_model.specs.declared.fault.OpenFault.{OpenFault}
use Rattle.cms_model.specs.declared.fault.OpenFault.TheVariants as failed

-- what is looked at of a unit: the bytes of a block, and how many blocks
pub record Disk : Type 0 where
  pub bsize : ℕ
  pub count : ℕ

-- a session looks at the first 1,048,576 blocks of a unit at most
abbrev pub disk_of : Attached → Disk
disk_of unit = record { bsize = unit.bsize; count = min (length unit.start) most_blocks }

-- a fault of a part is a fault of the volume
abbrev pub blamed : {A E : Type 0} → (E → OpenFault) → Result A E → Result A OpenFault
blamed why (Ok x) = Ok x
blamed why (Err e) = Err (why e)

-- goes on where there is none
abbrev pub absent : {X : Type 0} → Option X → (X → OpenFault) → Result (Unit {0}) OpenFault
absent None why = Ok tt
absent (Some x) why = Err (why x)

-- the length of records that is read of an entry: the one it tells at F; at V it says nothing, whatever stands there
abbrev pub length_read : Format → ℕ → ℕ
length_read F size = size
length_read V size = 0

-- an entry as it is read
abbrev pub as_read : Entry → Entry
as_read e = record e { length = length_read e.format e.length }

-- the entries that are read in pieces of 64 bytes, the first with this number
unfoldable pub entries_of : ℕ → ℕ → List (List ℕ) → Result (List Entry) OpenFault
entries_of bsize number [] = Ok []
entries_of bsize number (bytes ∷ rest) = do
  entry ← blamed (failed.Entry number) (entry_of bsize bytes)
  more ← entries_of bsize (number + 1) rest
  Ok (as_read entry ∷ more)

-- the number of the first entry whose name stands before it
unfoldable pub first_twice : ℕ → List Name → List Entry → Option ℕ
first_twice number before [] = None
first_twice number before (e ∷ es) = if is_named e.name before then Some number else first_twice (number + 1) (e.name ∷ before) es

-- the directory block in which the entry of a number stands, of its data blocks
abbrev pub holder_of : ℕ → List ℕ → ℕ → ℕ
holder_of bsize leaves number = slice_index leaves (number / (bsize / 64))

-- the trees of the files of these entries, the first with this number; the directory has these data blocks
unfoldable pub file_trees : ℕ → ℕ → Image → List ℕ → ℕ → List Entry → Result (List Met) OpenFault
file_trees bsize total image leaves number [] = Ok []
file_trees bsize total image leaves number (e ∷ es) = do
  met ← tree (form_of bsize total e.format) image e.levels None (holder_of bsize leaves number) e.root e.blocks
  more ← file_trees bsize total image leaves (number + 1) es
  Ok (met ∷ more)

-- all blocks of some trees, one tree after another
unfoldable pub blocks_of : List Met → List ℕ
blocks_of [] = []
blocks_of (m ∷ ms) = m.blocks ++ blocks_of ms

-- the records of the files of these entries, in the data blocks of their trees
unfoldable pub contents_in : ℕ → Image → ℕ → List Entry → List Met → Result (List (List (List ℕ))) OpenFault
contents_in bsize image number [] ms = Ok []
contents_in bsize image number (e ∷ es) [] = Ok []
contents_in bsize image number (e ∷ es) (m ∷ ms) = do
  records ← blamed (failed.Var number) (records_of bsize e.format e.length e.count (bytes_at image m.leaves))
  more ← contents_in bsize image (number + 1) es ms
  Ok (records ∷ more)

-- an open volume: its label, directory, map and files, with their trees, and the number of lost blocks
pub record Opened : Type 0 where
  pub label : Label
  pub directory : SystemFile
  pub directory_met : Met
  pub map : SystemFile
  pub map_met : Met
  pub entries : List Entry
  pub mets : List Met
  pub contents : List (List (List ℕ))
  pub lost : ℕ

-- the blocks of all trees: those of the directory (the origin is 4 or 5 and all others are from 6 on, so it repeats
-- nowhere), of the map, of the files
abbrev pub tree_blocks : Met → Met → List Met → List ℕ
tree_blocks directory map files = directory.blocks ++ (map.blocks ++ blocks_of files)

-- all blocks of a volume's trees
abbrev pub all_blocks : Opened → List ℕ
all_blocks v = tree_blocks v.directory_met v.map_met v.mets

-- the volume behind its label, by the further tests, one after another
abbrev pub opened_behind : Disk → Image → Label → Result Opened OpenFault
opened_behind disk image label = do
  directory ← directory_of disk.bsize label.origin (image label.origin)
  directory_met ← tree (form_of disk.bsize label.blocks F) image directory.levels
      (Some label.origin) label.origin directory.root directory.blocks
  map ← map_of disk.bsize label.blocks (drop 64 (image label.origin))
  entries ← entries_of disk.bsize 2 (cut (directory.count - 2) 64 (drop 128 (bytes_at image directory_met.leaves)))
  absent (first_twice 2 [] entries) failed.Twice
  map_met ← tree (form_of disk.bsize label.blocks F) image map.levels None label.origin map.root map.blocks
  mets ← file_trees disk.bsize label.blocks image directory_met.leaves 2 entries
  absent (first_repeat [] (tree_blocks directory_met map_met mets)) failed.Crossed
  absent (lowest_unmarked (bytes_at image map_met.leaves) (tree_blocks directory_met map_met mets) 6 (label.blocks - 5)) failed.MapMissing
  contents ← contents_in disk.bsize image 2 entries mets
  Ok (record {
    label = label;
    directory = directory;
    directory_met = directory_met;
    map = map;
    map_met = map_met;
    entries = entries;
    mets = mets;
    contents = contents;
    lost = lost_count (bytes_at image map_met.leaves) (tree_blocks directory_met map_met mets) 6 (label.blocks - 5);
  })

-- the volume in an image, or the first test that fails, in the order of the tests on opening
unfoldable pub open_of : Disk → Image → Result Opened OpenFault
open_of disk image = do
  want (nat_le 6 disk.count) (failed.Label Count)
  label ← blamed failed.Label (label_of disk.bsize disk.count (image 3))
  opened_behind disk image label

-- the image has the label, directory and map of this volume
pub record HoldsSystem (disk : Disk) (image : Image) (v : Opened) : Type 0 where
  pub blocks : nat_le 6 disk.count ≡ true
  pub label : label_of disk.bsize disk.count (image 3) ≡ Ok v.label
  pub directory : directory_of disk.bsize v.label.origin (image v.label.origin) ≡ Ok v.directory
  pub directory_met : tree (form_of disk.bsize v.label.blocks F) image v.directory.levels
      (Some v.label.origin) v.label.origin v.directory.root v.directory.blocks ≡ Ok v.directory_met
  pub map : map_of disk.bsize v.label.blocks (drop 64 (image v.label.origin)) ≡ Ok v.map
  pub entries : entries_of disk.bsize 2 (cut (v.directory.count - 2) 64 (drop 128 (bytes_at image v.directory_met.leaves))) ≡ Ok v.entries
  pub map_met : tree (form_of disk.bsize v.label.blocks F) image v.map.levels None v.label.origin v.map.root v.map.blocks ≡ Ok v.map_met

-- the image holds this volume: the same as the tests on opening, one by one
pub record IsOpened (disk : Disk) (image : Image) (v : Opened) : Type 0 where
  pub system : HoldsSystem disk image v
  pub names : first_twice 2 [] v.entries ≡ None
  pub mets : file_trees disk.bsize v.label.blocks image v.directory_met.leaves 2 v.entries ≡ Ok v.mets
  pub apart : first_repeat [] (all_blocks v) ≡ None
  pub marked : lowest_unmarked (bytes_at image v.map_met.leaves) (all_blocks v) 6 (v.label.blocks - 5) ≡ None
  pub contents : contents_in disk.bsize image 2 v.entries v.mets ≡ Ok v.contents
  pub lost : lost_count (bytes_at image v.map_met.leaves) (all_blocks v) 6 (v.label.blocks - 5) ≡ v.lost

-- the files of these entries, with these records
unfoldable pub files_of : List Entry → List (List (List ℕ)) → List File
files_of [] contents = []
files_of (e ∷ es) [] = []
files_of (e ∷ es) (records ∷ more) =
    record {
      name = e.name;
      number = e.number;
      format = e.format;
      length = length_of e.format e.length records;
      stamp = e.stamp;
      records = records;
    }
    ∷ files_of es more

-- the minidisk that a volume is
unfoldable pub minidisk_of : Disk → Opened → Minidisk
minidisk_of disk v = record {
  volid = v.label.volid;
  bsize = disk.bsize;
  total = v.label.blocks;
  lost = v.lost;
  files = files_of v.entries v.contents;
}

-- the number of a reason
unfoldable pub reason : OpenFault → ℕ
reason failed.Device = 1
reason (failed.Label k) = 2
reason (failed.Entry n k) = 3
reason (failed.Pointer holder value) = 4
reason (failed.Crossed n) = 5
reason (failed.MapMissing n) = 6
reason (failed.Var n k) = 7
reason (failed.Twice n) = 8
reason (failed.System n) = 9
reason failed.Memory = 10

-- the state of what opened, or the reason why nothing did
abbrev pub state_from : Disk → Result Opened OpenFault → State
state_from disk (Ok v) = Volume (minidisk_of disk v)
state_from disk (Err why) = Not (reason why)

-- the state of an image
unfoldable pub state_of : Disk → Image → State
state_of disk image = state_from disk (open_of disk image)

-- the image stands for a minidisk
abbrev pub StandsForMinidisk : Disk → Image → Minidisk → Type 0
StandsForMinidisk disk image m = state_of disk image ≡ Volume m

-- The files of a volume, as opening reads them: their trees, and what is told of their records.
use Rattle.std.specs.Prelude.{◌≡◌, ℕ, List, [], ◌∷◌, length, map, None, Result, Ok, Err}
use Rattle.cms_fields.specs.Steps.{◌>>=◌}
use Rattle.cms_fields.specs.Entries.{fan_of, pointer_size}
use Rattle.cms_fields.specs.declared.label.Label.{Label}
use Rattle.cms_fields.specs.declared.entry.Entry.{Entry}
use Rattle.cms_model.specs.Trees.{Image, Met, form_of, tree, bytes_at}
use Rattle.cms_model.specs.Records.{records_of, length_of}
use Rattle.cms_model.specs.Sizes.{pointer_count}
use Rattle.cms_model.specs.Volumes.{Disk, Opened, blamed, file_trees, contents_in, tree_blocks}
use Rattle.cms_model.specs.declared.fault.OpenFault.{OpenFault}
use Rattle.cms_model.specs.declared.fault.OpenFault.TheVariants as failed
use Rattle.cms_records.specs.declared.sizes.VarSizes.{VarSizes}
use Rattle.cms_tree.specs.Walks.{nodes, nodes_at}
use Rattle.cms_tree.specs.declared.types.TreeAt.{TreeAt}
use Rattle.cms_tree.specs.declared.types.Walked.{Walked}
use Rattle.cms_edf.specs.declared.listing.Place.{Place}
use Rattle.cms_edf.specs.declared.listing.Listing.{Listing}
use Rattle.cms_edf.specs.declared.volume.Trees.{Trees}
use Rattle.cms_edf.specs.declared.contents.RecordsTold.{RecordsTold}
use Rattle.cms_held.specs.HeldVolumes.{IsFaultOf, HeldFile, HeldVolume, size_of, held_of}
use Rattle.cms_held.specs.Marks.{start_of}
use Rattle.cms_edf.specs.OpeningSteps.{Listed, Treed, listed, met_in, system_at, listed_in, trees_in, lost_in}

-- where the tree of a file stands, whose root's number is in a block of the directory
abbrev pub file_at : Place → ℕ → Entry → TreeAt
file_at place holder e = record {
  unit = place.unit;
  bsize = place.bsize;
  volume = place.total;
  holder = holder;
  root = e.root;
  count = e.blocks;
  psize = pointer_size e.format;
  first = None;
}

-- its tree
abbrev pub file_tree : Place → Image → ℕ → Entry → Result Met OpenFault
file_tree place image holder e = tree (form_of place.bsize place.total e.format) image e.levels None holder e.root e.blocks

-- its pointer blocks, bottom level first and each from left to right
abbrev pub file_nodes : Place → Image → Entry → List ℕ
file_nodes place image e = nodes (form_of place.bsize place.total e.format) image e.levels e.root e.blocks

-- its tree was read, or the tree's first fault
abbrev pub ReadsFile : Place → Image → ℕ → Entry → Result Walked OpenFault → Type 0
ReadsFile place image holder e (Ok walked) = (file_tree place image holder e ≡ Ok (met_in walked))
    × (walked.pointers.items ≡ file_nodes place image e)
ReadsFile place image holder e (Err why) = IsFaultOf (file_tree place image holder e) why

-- the pointer blocks of a tree that was read
abbrev pub pointers_in : Walked → List ℕ
pointers_in walked = walked.pointers.items

-- the trees of the files of these entries were read; the directory has these data blocks
pub record HasFiles (place : Place) (image : Image) (leaves : List ℕ) (entries : List Entry) (walks : List Walked) : Type 0 where
  pub trees : file_trees place.bsize place.total image leaves 2 entries ≡ Ok (map met_in walks)
  pub nodes_are : map pointers_in walks ≡ map (file_nodes place image) entries

-- the trees of the map and of the files, as they were read
abbrev pub read_trees : Trees → Treed
read_trees t = record { map_met = met_in t.map; mets = map met_in t.files.items }

-- they are those of a volume whose directory says so
pub record HasTrees (place : Place) (image : Image) (l : Listing) (t : Trees) : Type 0 where
  pub trees : trees_in place.bsize place.total place.origin image (listed l) ≡ Ok (read_trees t)
  pub map_nodes : t.map.pointers.items ≡ nodes_at image (system_at place l.map None)
  pub nodes_are : map pointers_in t.files.items ≡ map (file_nodes place image) l.entries.items

-- what the records of a file come to, or their first fault
abbrev pub records_in : ℕ → Image → ℕ → Entry → List ℕ → Result (List (List ℕ)) OpenFault
records_in bsize image number e leaves = blamed (failed.Var number) (records_of bsize e.format e.length e.count (bytes_at image leaves))

-- what is told of these records
abbrev pub AreSized : Entry → List (List ℕ) → VarSizes → Type 0
AreSized e records sizes = (sizes.longest ≡ length_of e.format e.length records)
    × (sizes.stored ≡ size_of e.format e.length e.count records)

-- the file has records, of which this is told
pub record HasRecords (bsize : ℕ) (image : Image) (number : ℕ) (e : Entry) (leaves : List ℕ) (told : RecordsTold) : Type 0 where
  pub records : List (List ℕ)
  pub are : records_in bsize image number e leaves ≡ Ok records
  pub sized : AreSized e records told.sizes
  pub starts : told.start ≡ start_of bsize e.format records

-- a file with the tree that was read, and with these records, whose length its entry tells
abbrev pub told_file : ℕ → Entry → Walked → List (List ℕ) → HeldFile
told_file bsize e walked records = record {
  entry = record e { length = length_of e.format e.length records };
  tree = record { leaves = walked.leaves.items; pointers = walked.pointers.items };
  length = length_of e.format e.length records;
  size = size_of e.format e.length e.count records;
  start = start_of bsize e.format records;
}

-- the files of these entries, with the trees that were read, and with these records
unfoldable pub told_files : ℕ → List Entry → List Walked → List (List (List ℕ)) → List HeldFile
told_files bsize [] walks contents = []
told_files bsize (e ∷ es) [] contents = []
told_files bsize (e ∷ es) (walked ∷ walks) [] = []
told_files bsize (e ∷ es) (walked ∷ walks) (records ∷ more) = told_file bsize e walked records ∷ told_files bsize es walks more

-- the files of these entries, with the trees that were read, have records and are held so
pub record HasContents (bsize : ℕ) (image : Image) (entries : List Entry) (walks : List Walked) (files : List HeldFile) : Type 0 where
  pub contents : List (List (List ℕ))
  pub are : contents_in bsize image 2 entries (map met_in walks) ≡ Ok contents
  pub files_are : files ≡ told_files bsize entries walks contents

-- how many data blocks and pointer blocks a tree has that was read
abbrev pub walked_sizes : Walked → ℕ × ℕ
walked_sizes w = (length w.leaves.items, length w.pointers.items)

-- and a file's tree by its entry
abbrev pub entry_sizes : ℕ → Entry → ℕ × ℕ
entry_sizes bsize e = (e.blocks, pointer_count (fan_of bsize e.format) e.blocks)

-- each of the trees that were read has as many as its entry says
abbrev pub HaveCounts : ℕ → List Entry → List Walked → Type 0
HaveCounts bsize entries walks = map walked_sizes walks ≡ map (entry_sizes bsize) entries

-- ---- the tests behind the label's, part by part

-- the volume of these parts
abbrev pub opened : Label → Listed → Treed → ℕ → List (List (List ℕ)) → Opened
opened label l t lost contents = record {
  label = label;
  directory = l.directory;
  directory_met = l.directory_met;
  map = l.map;
  map_met = t.map_met;
  entries = l.entries;
  mets = t.mets;
  contents = contents;
  lost = lost;
}

-- from the files' records on
abbrev pub counted : Disk → Image → Label → Listed → Treed → ℕ → Result Opened OpenFault
counted disk image label l t lost = contents_in disk.bsize image 2 l.entries t.mets >>= λ contents. Ok (opened label l t lost contents)

-- from the blocks that are met twice on
abbrev pub lost_told : Disk → Image → Label → Listed → Treed → Result Opened OpenFault
lost_told disk image label l t = lost_in (bytes_at image t.map_met.leaves) label.blocks
    (tree_blocks l.directory_met t.map_met t.mets) >>= counted disk image label l t

-- from the trees of the map and the files on
abbrev pub treed : Disk → Image → Label → Listed → Result Opened OpenFault
treed disk image label l = trees_in disk.bsize label.blocks label.origin image l >>= lost_told disk image label l

-- all of them
unfoldable pub behind_label : Disk → Image → Label → Result Opened OpenFault
behind_label disk image label = listed_in disk.bsize label.blocks label.origin image >>= treed disk image label

-- the volume that stands there, as it is held, or its first fault
pub record HasVolume (unit : ℕ) (disk : Disk) (image : Image) (label : Label) (held : HeldVolume) : Type 0 where
  pub volume : Opened
  pub opens : behind_label disk image label ≡ Ok volume
  pub held_is : held ≡ held_of unit disk image volume

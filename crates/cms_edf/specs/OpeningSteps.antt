-- The steps of opening, each as a test of the order gives it.
use Rattle.std.specs.Prelude.{◌≡◌, ◌≤◌, ◌<◌, ◌^◌, ◌+◌, ◌*◌, ◌/◌, ℕ, ◌-◌, Bool, true, false, List, [], ◌++◌, All, length, drop, slice_index_or, Option, None, Some, Result, Ok, Err}
use Rattle.std.specs.Option.{ForSome}
use Rattle.cms_journal.specs.Journal.{IsBlockSize, Journal, contents_of}
use Rattle.cms_names.specs.declared.name.Format.TheVariants.{F}
use Rattle.cms_fields.specs.Entries.{passes}
use Rattle.cms_fields.specs.Limits.{most_files}
use Rattle.cms_fields.specs.Numbers.{up}
use Rattle.cms_fields.specs.Steps.{◌>>=◌, ◌>>◌}
use Rattle.cms_fields.specs.declared.entry.Entry.{Entry}
use Rattle.cms_model.specs.DirectoryParts.{directory_count}
use Rattle.cms_model.specs.Lists.{In, holds, cut, first_repeat}
use Rattle.cms_model.specs.Maps.{lowest_unmarked, lost_count}
use Rattle.cms_model.specs.Trees.{Image, Met, image_of, form_of, tree, bytes_at}
use Rattle.cms_model.specs.Sizes.{levels, pointer_count}
use Rattle.cms_model.specs.Systems.{SystemFile, directory_of, map_of}
use Rattle.cms_model.specs.Volumes.{entries_of, first_twice, file_trees, absent}
use Rattle.cms_model.specs.declared.fault.OpenFault.{OpenFault}
use Rattle.cms_model.specs.declared.fault.OpenFault.TheVariants as failed
use Rattle.cms_tree.specs.declared.types.TreeAt.{TreeAt}
use Rattle.cms_tree.specs.declared.types.Walked.{Walked}
use Rattle.cms_tree.specs.Walks.{IsWithin, tree_at, nodes_at}
use Rattle.cms_edf.specs.EntryShapes.{HasShape, HasSize}
use Rattle.cms_edf.specs.declared.listing.Place.{Place}
use Rattle.cms_edf.specs.declared.listing.Listing.{Listing}
use Rattle.cms_held.specs.HeldVolumes.{IsFaultOf}

-- what holds of the image of a unit, where the journal is told
abbrev pub OfImage : Option Journal → ℕ → (Image → Type 0) → Type 0
OfImage told unit P = ForSome told (λ j. P (image_of (contents_of j unit)))

-- what a walk met
abbrev pub met_in : Walked → Met
met_in walked = record { blocks = walked.blocks.items; leaves = walked.leaves.items }

-- the tree in an image, or the first fault of it
abbrev pub ReadsTree : Image → TreeAt → Result Walked OpenFault → Type 0
ReadsTree image at (Ok walked) = (tree_at image at ≡ Ok (met_in walked)) × (walked.pointers.items ≡ nodes_at image at)
ReadsTree image at (Err why) = IsFaultOf (tree_at image at) why

-- what is read, behind what was read before
abbrev pub behind : {A : Type 0} → List A → Result (List A) OpenFault → Result (List A) OpenFault
behind old read = read >>= λ more. Ok (old ++ more)

-- what the directory says: where it and the map stand, and the files' entries
pub record Listed : Type 0 where
  pub directory : SystemFile
  pub directory_met : Met
  pub map : SystemFile
  pub entries : List Entry

-- the tests from the directory's own entry up to the names
unfoldable pub listed_in : ℕ → ℕ → ℕ → Image → Result Listed OpenFault
listed_in bsize total origin image = do
  directory ← directory_of bsize origin (image origin)
  met ← tree (form_of bsize total F) image directory.levels (Some origin) origin directory.root directory.blocks
  map ← map_of bsize total (drop 64 (image origin))
  entries ← entries_of bsize 2 (cut (directory.count - 2) 64 (drop 128 (bytes_at image met.leaves)))
  absent (first_twice 2 [] entries) failed.Twice
  Ok (record { directory = directory; directory_met = met; map = map; entries = entries })

-- the bits, that of block 1 first, tell which blocks were met
abbrev pub Tells : List Bool → List ℕ → Type 0
Tells bits met = (n : ℕ) → 1 ≤ n → slice_index_or bits (n - 1) false ≡ holds met n

-- each is a block of so many
abbrev pub AreBlocks : ℕ → List ℕ → Type 0
AreBlocks count blocks = (n : ℕ) → In n blocks → (1 ≤ n) × (n ≤ count)

-- no bit is set
abbrev pub AreClear : List Bool → Type 0
AreClear bits = (n : ℕ) → slice_index_or bits n false ≡ false

-- where the tree of the directory or the map stands
abbrev pub system_at : Place → SystemFile → Option ℕ → TreeAt
system_at place system first = record {
  unit = place.unit;
  bsize = place.bsize;
  volume = place.total;
  holder = place.origin;
  root = system.root;
  count = system.blocks;
  psize = 4;
  first = first;
}

-- the directory that was read, with its entries, as the definition of an opening has it
abbrev pub listed : Listing → Listed
listed l = record { directory = l.directory; directory_met = met_in l.walked; map = l.map; entries = l.entries.items }

-- what the directory says, or the first of its tests that fails
abbrev pub ReadsListed : Place → Image → Result Listing OpenFault → Type 0
ReadsListed place image (Ok l) = (listed_in place.bsize place.total place.origin image ≡ Ok (listed l))
    × (l.walked.pointers.items ≡ nodes_at image (system_at place l.directory (Some place.origin)))
ReadsListed place image (Err why) = IsFaultOf (listed_in place.bsize place.total place.origin image) why

-- what else is so of a directory that was read: its own entry and the map's have the blocks that their trees need, its tree is whole and
-- within the volume, and the files' entries fit in it, pass their tests and have distinct names
pub record IsListing (place : Place) (l : Listing) : Type 0 where
  pub map_shape : (1 ≤ l.map.blocks) × (l.map.levels ≡ levels (place.bsize / 4) l.map.blocks)
  pub room : place.total ≤ 8 * (l.map.blocks * place.bsize)
  pub directory_shape : l.directory.levels ≡ levels (place.bsize / 4) l.directory.blocks
  pub size : IsBlockSize place.bsize
  pub leaves : (1 ≤ l.directory.blocks) × (length l.walked.leaves.items ≡ l.directory.blocks)
  pub pointers : length l.walked.pointers.items ≡ pointer_count (place.bsize / 4) l.directory.blocks
  pub small : (l.directory.blocks < 2 ^ 32) × (l.map.blocks < 2 ^ 32)
  pub counts : (l.directory.blocks ≡ directory_count place.bsize (length l.entries.items)) × (l.map.blocks ≡ up (up place.total 8) place.bsize)
  pub room_for_entries : (length l.entries.items + 2) * 64 ≤ length l.walked.leaves.items * place.bsize
  pub shapes : All (HasShape place.bsize) l.entries.items
  pub sizes : All (HasSize place.bsize) l.entries.items
  pub passing : All (λ e. passes place.bsize e ≡ true) l.entries.items
  pub names : first_twice 2 [] l.entries.items ≡ None
  pub few : length l.entries.items ≤ most_files
  pub within : IsWithin place.total (Some place.origin) l.walked

-- the trees of the map and of the files
pub record Treed : Type 0 where
  pub map_met : Met
  pub mets : List Met

-- the trees of the map and of the files, or the first pointer that isn't allowed
unfoldable pub trees_in : ℕ → ℕ → ℕ → Image → Listed → Result Treed OpenFault
trees_in bsize total origin image l = do
  map_met ← tree (form_of bsize total F) image l.map.levels None origin l.map.root l.map.blocks
  mets ← file_trees bsize total image l.directory_met.leaves 2 l.entries
  Ok (record { map_met = map_met; mets = mets })

-- how many blocks are lost, where these are met, none of them twice and each marked in the map's bytes
unfoldable pub lost_in : List ℕ → ℕ → List ℕ → Result ℕ OpenFault
lost_in bytes total blocks = do
  absent (first_repeat [] blocks) failed.Crossed
  absent (lowest_unmarked bytes blocks 6 (total - 5)) failed.MapMissing
  Ok (lost_count bytes blocks 6 (total - 5))

-- the map's tree, or the first fault of it
abbrev pub ReadsMap : Place → Image → SystemFile → Result Walked OpenFault → Type 0
ReadsMap place image s (Ok walked) =
    (tree (form_of place.bsize place.total F) image s.levels None place.origin s.root s.blocks ≡ Ok (met_in walked))
    × (walked.pointers.items ≡ nodes_at image (system_at place s None))
ReadsMap place image s (Err why) = IsFaultOf (tree (form_of place.bsize place.total F) image s.levels None place.origin s.root s.blocks) why

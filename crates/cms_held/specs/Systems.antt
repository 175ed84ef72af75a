-- The directory, the map and the label of a volume as an update writes them.
use Rattle.std.specs.Prelude.{◌≡◌, ℕ, ◌+◌, ◌-◌, ◌*◌, ◌/◌, ◌^◌, ◌<◌, ◌≤◌, Bool, true, false, List, [], ◌∷◌, ◌++◌, length, map, take, drop, replicate, slice_index, slice_index_or, All, Ok, ⊤}
use Rattle.std.specs.List.{range_with_len}
use Rattle.byteorder.specs.Endian.{big_bytes}
use Rattle.cms_journal.specs.Journal.{IsBlockSize}
use Rattle.cms_fields.specs.Numbers.{up}
use Rattle.cms_fields.specs.Stamps.{is_stamp, stamp_bytes, stamp_flags}
use Rattle.cms_fields.specs.Labels.{label_of}
use Rattle.cms_fields.specs.Entries.{passes, filled_in}
use Rattle.cms_fields.specs.declared.time.Stamp.{Stamp}
use Rattle.cms_fields.specs.declared.label.Label.{Label}
use Rattle.cms_fields.specs.declared.entry.Entry.{Entry}
use Rattle.cms_fields.specs.Limits.{most_files}
use Rattle.cms_names.specs.declared.name.Format.TheVariants.{F}
use Rattle.cms_model.specs.Lists.{times, cut}
use Rattle.cms_model.specs.Maps.{is_marked}
use Rattle.cms_model.specs.Sizes.{levels, pointer_count}
use Rattle.cms_model.specs.Systems.{SystemFile}
use Rattle.cms_model.specs.Trees.{Image, Met, bytes_at, form_of}
use Rattle.cms_model.specs.Volumes.{Disk, HoldsSystem}
use Rattle.cms_model.specs.Settled.{Write}
use Rattle.cms_map.specs.Bits.{bits_in, bytes_from, HasFixed}
use Rattle.cms_tree.specs.Builds.{node_at, node_bytes, nodes_over, root_of}
use Rattle.cms_held.specs.HeldVolumes.{HeldTree}
use Rattle.cms_held.specs.SharedTrees.{IsStanding}
use Rattle.cms_held.specs.Written.{ReadsBack, all_read, directory_name, map_name, file_entries}

-- what is written of a tree: its data blocks and its pointer blocks at these places, from 0 and ascending
pub record TreePart : Type 0 where
  pub leaves : List ℕ
  pub nodes : List ℕ

-- all that an update writes but a file's blocks: the label with its block's bytes, a part of the directory with the bytes of the data
-- blocks that are written, one block's behind the other's, and a part of the map with its bits; of each tree the data blocks in order and
-- the pointer blocks, those of the bottom level first, with those that are kept
pub record Systems : Type 0 where
  pub label : Label
  pub label_bytes : List ℕ
  pub directory : HeldTree
  pub directory_part : TreePart
  pub directory_bytes : List ℕ
  pub map : HeldTree
  pub map_part : TreePart
  pub bits : List Bool

-- where the tree of a system file stands, of so many records
abbrev pub file_at : ℕ → HeldTree → ℕ → SystemFile
file_at bsize t count = record {
  root = root_of t.leaves t.pointers;
  blocks = length t.leaves;
  count = count;
  levels = levels (bsize / 4) (length t.leaves);
}

-- of a directory of so many files, and of the map
abbrev pub directory_file : ℕ → Systems → ℕ → SystemFile
directory_file bsize s files = file_at bsize s.directory (files + 2)

-- the map's own entry, as its tree says it
abbrev pub map_file : ℕ → Systems → SystemFile
map_file bsize s = file_at bsize s.map (length s.map.leaves)

-- the entry of a system file: its 16 bytes of names, the length of its records, where it stands, and the stamp
unfoldable pub system_entry : List ℕ → ℕ → SystemFile → Stamp → List ℕ
system_entry name size file stamp =
    filled_in ((0, name) ∷ (24, 0xC1 ∷ 0xF1 ∷ []) ∷ (30, 0xC6 ∷ []) ∷ (31, stamp_flags stamp ∷ [])
    ∷ (32, big_bytes 4 size) ∷ (40, big_bytes 4 file.root) ∷ (44, big_bytes 4 file.blocks) ∷ (48, big_bytes 4 file.count) ∷ (52, file.levels ∷ 4 ∷ [])
    ∷ (54, stamp_bytes stamp) ∷ []) (replicate 64 0)

-- the bytes of a directory of these files: its own entry, the map's, the files', and zeros up to the end of its last block
unfoldable pub directory_bytes_of : ℕ → Systems → List Entry → Stamp → List ℕ
directory_bytes_of bsize s entries stamp =
    system_entry directory_name 64 (directory_file bsize s (length entries)) stamp
    ++ (system_entry map_name bsize (map_file bsize s) stamp ++ (file_entries entries
    ++ replicate (length s.directory.leaves * bsize - 64 * (length entries + 2)) 0))

-- writes of these blocks, each with its bytes
unfoldable pub block_writes : List ℕ → List (List ℕ) → List Write
block_writes [] pieces = []
block_writes (n ∷ ns) [] = []
block_writes (n ∷ ns) (bytes ∷ pieces) = record { block = n; bytes = bytes } ∷ block_writes ns pieces

-- writes of the blocks of a list at these places, each with its piece
abbrev pub leaf_writes : List ℕ → (ℕ → List ℕ) → List ℕ → List Write
leaf_writes leaves piece written =
    map (λ j. record { block = slice_index leaves j; bytes = piece j }) written

-- writes of data blocks at these places, with the bytes of all of them
abbrev pub data_writes : ℕ → List ℕ → List ℕ → List ℕ → List Write
data_writes bsize leaves places bytes =
    block_writes (map (slice_index leaves) places) (cut (length places) bsize bytes)

-- writes of the pointer blocks at these places of a tree of fixed records
abbrev pub nodes_at : ℕ → HeldTree → List ℕ → List Write
nodes_at bsize t places = leaf_writes t.pointers (node_at bsize 4 t.leaves [] t.pointers) places

-- the bytes of a data block of the directory, and of the map
abbrev pub directory_piece : ℕ → Systems → List Entry → Stamp → ℕ → List ℕ
directory_piece bsize s entries stamp j =
    take bsize (drop (j * bsize) (directory_bytes_of bsize s entries stamp))

-- the latter is made of the map's bits
abbrev pub map_piece : ℕ → List Bool → ℕ → List ℕ
map_piece bsize bits j = bytes_from (j * bsize) bsize bits

-- the writes before the label's: the directory's data blocks but its first, its pointer blocks, the map's data blocks, its pointer
-- blocks, and the directory's first block; of each those that aren't kept
abbrev pub system_writes : ℕ → Systems → List Write
system_writes bsize s =
    drop 1 (data_writes bsize s.directory.leaves s.directory_part.leaves s.directory_bytes)
    ++ (nodes_at bsize s.directory s.directory_part.nodes
    ++ (leaf_writes s.map.leaves (map_piece bsize s.bits) s.map_part.leaves
    ++ (nodes_at bsize s.map s.map_part.nodes
    ++ take 1 (data_writes bsize s.directory.leaves s.directory_part.leaves s.directory_bytes))))

-- ---- where both trees are written whole

-- all places of a tree
abbrev pub whole_part : HeldTree → TreePart
whole_part t = record {
  leaves = range_with_len 0 (length t.leaves);
  nodes = range_with_len 0 (length t.pointers);
}

-- the data blocks of the directory
abbrev pub directory_pieces : ℕ → Systems → List (List ℕ)
directory_pieces bsize s = cut (length s.directory.leaves) bsize s.directory_bytes

-- the map's bytes, a block's bytes each
abbrev pub map_pieces : ℕ → Systems → List (List ℕ)
map_pieces bsize s = cut (length s.map.leaves) bsize (bytes_from 0 (length s.map.leaves * bsize) s.bits)

-- the pointer blocks of a tree of fixed records, bottom level first
abbrev pub node_writes : ℕ → HeldTree → List Write
node_writes bsize t = block_writes t.pointers (map (node_bytes bsize 4) (nodes_over (bsize / 4) t.leaves [] t.pointers))

-- the writes in the same order
abbrev pub whole_writes : ℕ → Systems → List Write
whole_writes bsize s =
    block_writes (drop 1 s.directory.leaves) (drop 1 (directory_pieces bsize s))
    ++ (node_writes bsize s.directory
    ++ (block_writes s.map.leaves (map_pieces bsize s)
    ++ (node_writes bsize s.map
    ++ block_writes (take 1 s.directory.leaves) (take 1 (directory_pieces bsize s)))))

-- an image has the bytes of these writes
abbrev pub HasWritten : Image → List Write → Type 0
HasWritten image [] = ⊤
HasWritten image (w ∷ ws) = (image w.block ≡ w.bytes) × HasWritten image ws

-- what is written can be read again: each number has its place, and each tree the blocks that its sizes say
pub record IsLaidOut (disk : Disk) (s : Systems) (entries : List Entry) : Type 0 where
  pub size : IsBlockSize disk.bsize
  pub spells : label_of disk.bsize disk.count s.label_bytes ≡ Ok s.label
  pub label_long : length s.label_bytes ≡ disk.bsize
  pub blocks : s.label.blocks < 2 ^ 32
  pub few : length entries ≤ most_files
  pub each : All (λ e. passes disk.bsize e ≡ true) entries
  pub back : All ReadsBack entries
  pub first : (more : List ℕ) × (s.directory.leaves ≡ s.label.origin ∷ more) × All (λ n. (6 ≤ n) × (n ≤ s.label.blocks)) more
  pub directory_count : length s.directory.leaves ≡ up (64 * (length entries + 2)) disk.bsize
  pub directory_nodes : length s.directory.pointers ≡ pointer_count (disk.bsize / 4) (length s.directory.leaves)
  pub directory_within : All (λ n. (6 ≤ n) × (n ≤ s.label.blocks)) s.directory.pointers
  pub map_count : length s.map.leaves ≡ up (up s.label.blocks 8) disk.bsize
  pub map_nodes : length s.map.pointers ≡ pointer_count (disk.bsize / 4) (length s.map.leaves)
  pub map_within : All (λ n. (6 ≤ n) × (n ≤ s.label.blocks)) (s.map.leaves ++ s.map.pointers)
  pub bits_count : length s.bits ≡ s.label.blocks
  pub fixed : HasFixed s.bits

-- a tree as it is held has the data blocks that are read, and its pointer blocks in some order
pub record IsTree (t : HeldTree) (met : Met) : Type 0 where
  pub leaves : t.leaves ≡ met.leaves
  pub blocks : (n : ℕ) → times n met.blocks ≡ times n t.pointers + times n t.leaves

-- what is read in an image of the label, the directory with these entries, and the map, and that their trees stand in it
pub record ReadsSystems (disk : Disk) (image : Image) (s : Systems) (entries : List Entry) : Type 0 where
  pub directory : Met
  pub map : Met
  pub holds : (mets : List Met) (contents : List (List (List ℕ))) (lost : ℕ) → HoldsSystem disk image (record {
    label = s.label;
    directory = directory_file disk.bsize s (length entries);
    directory_met = directory;
    map = map_file disk.bsize s;
    map_met = map;
    entries = all_read entries;
    mets = mets;
    contents = contents;
    lost = lost;
  })
  pub directory_is : IsTree s.directory directory
  pub map_is : IsTree s.map map
  pub directory_stands : IsStanding (form_of disk.bsize s.label.blocks F) image s.directory
  pub map_stands : IsStanding (form_of disk.bsize s.label.blocks F) image s.map
  pub map_bytes : bytes_at image map.leaves ≡ bytes_from 0 (length s.map.leaves * disk.bsize) s.bits

-- what was written whole is read
abbrev pub WrittenIsRead : Type 0
WrittenIsRead =
    (disk : Disk) (image : Image) (s : Systems) (entries : List Entry) (stamp : Stamp) → IsLaidOut disk s entries → is_stamp stamp ≡ true
    → s.directory_bytes ≡ directory_bytes_of disk.bsize s entries stamp → image 3 ≡ s.label_bytes
    → HasWritten image (whole_writes disk.bsize s) → ReadsSystems disk image s entries

-- what the bytes of a map say of so many blocks: these bits
pub record SaysBits (total : ℕ) (bits : List Bool) (bytes : List ℕ) : Type 0 where
  pub bits_are : bits_in total bytes ≡ bits
  pub marked : (n : ℕ) → 1 ≤ n → n ≤ total → is_marked bytes n ≡ slice_index_or bits (n - 1) false

-- the map that is read has the bits that were written
abbrev pub MapIsRead : Type 0
MapIsRead =
    (disk : Disk) (image : Image) (s : Systems) (entries : List Entry) → IsLaidOut disk s entries
    → (reads : ReadsSystems disk image s entries) → SaysBits s.label.blocks s.bits (bytes_at image reads.map.leaves)

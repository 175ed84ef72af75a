-- What was done where an update was cut off.
use Rattle.std.specs.Prelude.{◌≡◌, ◌⊎◌, ℕ, ◌*◌, ◌/◌, ◌^◌, ◌<◌, ◌≤◌, Bool, List, ◌++◌, length, take, drop, slice_index, All, Result, Ok, Err, ⊤}
use Rattle.cms_journal.specs.Journal.{IsBlockSize}
use Rattle.cms_journal.specs.Told.{Told, plus}
use Rattle.cms_model.specs.Settled.{Write, update, writes}
use Rattle.cms_model.specs.Sizes.{pointer_count}
use Rattle.cms_model.specs.LawsUpdates.{AddsFront, to_label, with_label}
use Rattle.cms_held.specs.HeldVolumes.{HeldTree}
use Rattle.cms_held.specs.Systems.{Systems, TreePart, data_writes, leaf_writes, map_piece, nodes_at, system_writes}
use Rattle.cms_edf.specs.BlockWrites.{IsBlockOf}
use Rattle.cms_edf.specs.declared.block_writes.Target.{Target}
use Rattle.cms_edf.specs.declared.doubt.Doubt.{Doubt}
use Rattle.cms_edf.specs.declared.doubt.Doubt.TheVariants.{Old, Either}

-- an update of these writes was cut off: in its writes or at its first sync, or with its label
abbrev pub IsCutOff : Told → Told → ℕ → List Write → List ℕ → Doubt → Type 0
IsCutOff old new unit ws label Old = AddsFront old new (writes unit ws)
IsCutOff old new unit ws label Either = (new ≡ plus old (to_label unit ws)) ⊎ (new ≡ plus old (with_label unit ws label))

-- what an update of these writes came to: all its events, or it was cut off
abbrev pub Updates : Told → Told → ℕ → List Write → List ℕ → Result ⊤ Doubt → Type 0
Updates old new unit ws label (Ok x) = new ≡ plus old (update unit ws label)
Updates old new unit ws label (Err why) = IsCutOff old new unit ws label why

-- the same of an update of no more than the directory, the map and the label
abbrev pub UpdatesSystems : Told → Told → ℕ → Systems → Result ⊤ Doubt → Type 0
UpdatesSystems old new unit s result = Updates old new unit (system_writes (length s.label_bytes) s) s.label_bytes result

-- these are places of a list, each of which has a block of so many
abbrev pub AreAt : ℕ → List ℕ → List ℕ → Type 0
AreAt total blocks places = All (λ j. (j < length blocks) × IsBlockOf total (slice_index blocks j)) places

-- what is held to be written has whole blocks: the label one, the directory as many as are written of it; each tree has the pointer
-- blocks that its size says, and what is written of it are blocks of the volume
pub record IsReady (bsize : ℕ) (s : Systems) : Type 0 where
  pub size : IsBlockSize bsize
  pub label_long : length s.label_bytes ≡ bsize
  pub label_within : 3 ≤ s.label.blocks
  pub directory_some : 1 ≤ length s.directory.leaves
  pub directory_few : length s.directory.leaves < 2 ^ 32
  pub directory_first : 1 ≤ length s.directory_part.leaves
  pub directory_long : length s.directory_bytes ≡ length s.directory_part.leaves * bsize
  pub directory_nodes : length s.directory.pointers ≡ pointer_count (bsize / 4) (length s.directory.leaves)
  pub directory_at : AreAt s.label.blocks s.directory.leaves s.directory_part.leaves
  pub directory_nodes_at : AreAt s.label.blocks s.directory.pointers s.directory_part.nodes
  pub map_some : 1 ≤ length s.map.leaves
  pub map_few : length s.map.leaves * bsize < 2 ^ 32
  pub map_nodes : length s.map.pointers ≡ pointer_count (bsize / 4) (length s.map.leaves)
  pub map_at : AreAt s.label.blocks s.map.leaves s.map_part.leaves
  pub map_nodes_at : AreAt s.label.blocks s.map.pointers s.map_part.nodes

-- where they are written
abbrev pub target_of : ℕ → Systems → Target
target_of unit s = record { unit = unit; total = s.label.blocks; bsize = length s.label_bytes }

-- the parts of an update's writes, in their order: the directory's data blocks but its first with its pointer blocks, the map's data blocks
-- with its pointer blocks, and the directory's first block; of each those at these places
abbrev pub directory_writes : ℕ → HeldTree → TreePart → List ℕ → List Write
directory_writes bsize t part bytes = drop 1 (data_writes bsize t.leaves part.leaves bytes) ++ nodes_at bsize t part.nodes

-- the writes of a map: its data blocks, then its pointer blocks
abbrev pub map_writes : ℕ → HeldTree → TreePart → List Bool → List Write
map_writes bsize t part bits = leaf_writes t.leaves (map_piece bsize bits) part.leaves ++ nodes_at bsize t part.nodes

-- the write of the directory's first block
abbrev pub first_writes : ℕ → HeldTree → TreePart → List ℕ → List Write
first_writes bsize t part bytes = take 1 (data_writes bsize t.leaves part.leaves bytes)

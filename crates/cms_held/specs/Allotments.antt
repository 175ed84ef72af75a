-- The blocks that an update takes and gives back, and what is planned to be written for it.
use Rattle.std.specs.Prelude.{◌≡◌, ℕ, ◌+◌, ◌-◌, ◌/◌, ◌<◌, ◌≤◌, ◌&&◌, nat_le, List, ◌∷◌, ◌++◌, length, map, take, drop, slice_index}
use Rattle.std.specs.List.{concat, filter}
use Rattle.cms_fields.specs.Labels.{with_label}
use Rattle.cms_fields.specs.Numbers.{up}
use Rattle.cms_fields.specs.declared.time.Stamp.{Stamp}
use Rattle.cms_model.specs.DirectoryParts.{blocks_made, directory_count}
use Rattle.cms_model.specs.Lists.{In}
use Rattle.cms_model.specs.SharedTrees.{fresh_to}
use Rattle.cms_model.specs.Sizes.{levels, map_size}
use Rattle.cms_map.specs.Bits.{free_blocks, with_marked}
use Rattle.cms_map.specs.Touched.{AreTouched}
use Rattle.cms_tree.specs.Paths.{fresh_places, path_levels}
use Rattle.cms_held.specs.EntryPlaces.{IsEnoughFor}
use Rattle.cms_held.specs.HeldVolumes.{HeldTree, HeldVolume}
use Rattle.cms_held.specs.MapShares.{turned}
use Rattle.cms_held.specs.Renewals.{Edit, entries_held, label_for, needed, with_freed}
use Rattle.cms_held.specs.SharedBlocks.{fresh_of, released_of}
use Rattle.cms_held.specs.Systems.{Systems, directory_piece}

-- which data blocks of the directory and of the map are written
pub record Parts : Type 0 where
  pub directory : List ℕ
  pub map : List ℕ

-- ---- the blocks

-- those that are taken for files and for the directory, the first block of which has a place of
-- its own
abbrev pub files_fresh : HeldVolume → Edit → Systems → Parts → List ℕ
files_fresh v edit s parts =
    edit.taken ++ drop 1 (fresh_of (v.disk.bsize / 4) parts.directory v.directory s.directory)

-- and those that are given back
abbrev pub files_released : HeldVolume → Edit → Systems → Parts → List ℕ
files_released v edit s parts =
    edit.given ++ drop 1 (released_of (v.disk.bsize / 4) parts.directory v.directory s.directory)

-- with those of the map
abbrev pub part_fresh : HeldVolume → Edit → Systems → Parts → List ℕ
part_fresh v edit s parts =
    files_fresh v edit s parts ++ fresh_of (v.disk.bsize / 4) parts.map v.map s.map

-- and those that are given back
abbrev pub part_released : HeldVolume → Edit → Systems → Parts → List ℕ
part_released v edit s parts =
    files_released v edit s parts ++ released_of (v.disk.bsize / 4) parts.map v.map s.map

-- a tree has the data blocks and the pointer blocks of the tree before that are kept, and for the
-- other pointer blocks these numbers in order
pub record KeepsTree (fan : ℕ) (written : List ℕ) (old new : HeldTree) : Type 0 where
  pub leaves : (j : ℕ) → j < length new.leaves → (In j written → ⊥)
      → slice_index new.leaves j ≡ slice_index old.leaves j
  pub nodes : List ℕ
  pub count : length nodes
      ≡ fresh_to fan (length old.leaves) (length new.leaves) written
      (levels fan (length new.leaves))
  pub path : new.pointers
      ≡ concat (path_levels fan (length old.leaves) old.pointers (length new.leaves) written nodes)

-- those of the blocks that have a bit in a map of so many
abbrev pub on_map : ℕ → List ℕ → List ℕ
on_map total blocks = filter (λ n. nat_le 1 n && nat_le n total) blocks

-- the trees of the directory and of the map are allotted: the directory begins in the other one of
-- blocks 4 and 5; what isn't kept takes the lowest free blocks in order, behind those that are
-- taken for a file; the bits are the map then
pub record IsPartAllotted (v : HeldVolume) (edit : Edit) (s : Systems) (parts : Parts) :
    Type 0 where
  pub origin : s.directory.leaves ≡ (9 - v.label.origin) ∷ drop 1 s.directory.leaves
  pub directory_is : length s.directory.leaves ≡ directory_count v.disk.bsize (length edit.files)
  pub map_is : length s.map.leaves ≡ up (up v.label.blocks 8) v.disk.bsize
  pub directory : KeepsTree (v.disk.bsize / 4) parts.directory v.directory s.directory
  pub map : KeepsTree (v.disk.bsize / 4) parts.map v.map s.map
  pub enough : IsEnoughFor v.disk.bsize (entries_held v.files) (entries_held edit.files)
      parts.directory
  pub touched : AreTouched v.disk.bsize
      (on_map v.label.blocks
      (turned (length (files_fresh v edit s parts) + map_size v.disk.bsize v.label.blocks) v.bits
      (files_fresh v edit s parts) (files_released v edit s parts) v.map)) parts.map
  pub lowest : part_fresh v edit s parts
      ≡ take (length (part_fresh v edit s parts)) (free_blocks v.bits)
  pub marks : s.bits
      ≡ with_freed (part_released v edit s parts) (with_marked (part_fresh v edit s parts) v.bits)

-- ---- what is planned

-- the data blocks that are written
abbrev pub parts_of : Systems → Parts
parts_of s = record { directory = s.directory_part.leaves; map = s.map_part.leaves }

-- the places of the pointer blocks of a tree that aren't kept of the one before
abbrev pub nodes_fresh : ℕ → List ℕ → HeldTree → HeldTree → List ℕ
nodes_fresh fan written old new = fresh_places fan (length old.leaves) (length new.leaves) written

-- what is written for an edit: the data blocks of the directory in which the entries stand that it makes anew; of the map those with the
-- bits that may change; of both trees the pointer blocks that aren't kept; and the label of the new volume. There is room for all that
-- the edit needs.
pub record IsPlanned (v : HeldVolume) (edit : Edit) (stamp : Stamp) (s : Systems) : Type 0 where
  pub blocks : IsPartAllotted v edit s (parts_of s)
  pub room : length edit.taken + needed v (length edit.files) edit.made ≤ length (free_blocks v.bits)
  pub label : s.label ≡ label_for v.label s.bits
  pub label_bytes : s.label_bytes ≡ with_label s.label v.label_bytes
  pub written : s.directory_part.leaves ≡ blocks_made v.disk.bsize (length edit.files) edit.made
  pub directory_bytes : s.directory_bytes
      ≡ concat (map (directory_piece v.disk.bsize s (entries_held edit.files) stamp) s.directory_part.leaves)
  pub directory_nodes : s.directory_part.nodes
      ≡ nodes_fresh (v.disk.bsize / 4) s.directory_part.leaves v.directory s.directory
  pub map_nodes : s.map_part.nodes ≡ nodes_fresh (v.disk.bsize / 4) s.map_part.leaves v.map s.map

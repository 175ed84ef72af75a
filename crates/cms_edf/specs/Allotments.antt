-- The blocks that are allotted for an update of the files.
use Rattle.std.specs.Prelude.{◌≡◌, ◌==◌, ℕ, ◌+◌, ◌-◌, ◌/◌, ◌<◌, ◌≤◌, true, false, List, ◌∷◌, ◌++◌, length, take, drop}
use Rattle.std.specs.List.{list_any}
use Rattle.cms_fields.specs.Numbers.{up}
use Rattle.cms_model.specs.DirectoryParts.{all_entries, blocks_made, directory_count}
use Rattle.cms_model.specs.Sizes.{map_size}
use Rattle.cms_map.specs.Bits.{free_blocks, with_marked}
use Rattle.cms_map.specs.Touched.{AreTouched}
use Rattle.cms_held.specs.Allotments.{KeepsTree, nodes_fresh, on_map}
use Rattle.cms_held.specs.HeldVolumes.{HeldTree, HeldVolume}
use Rattle.cms_held.specs.MapShares.{turned}
use Rattle.cms_held.specs.Renewals.{needed, with_freed}
use Rattle.cms_held.specs.SharedBlocks.{fresh_of, released_of}
use Rattle.cms_held.specs.Systems.{TreePart}
use Rattle.cms_edf.specs.NewDirectories.{NewDirectory}
use Rattle.cms_edf.specs.declared.allotment.Allotment.{Allotment}
use Rattle.cms_edf.specs.declared.allotment.Exchange.{Exchange}
use Rattle.cms_edf.specs.declared.allotment.Made.{Made}
use Rattle.cms_edf.specs.declared.allotment.Made.TheVariants.{Entries, Whole}

-- the blocks of a file that are given back
abbrev pub given_back : Exchange → List ℕ
given_back x = x.leaves.now ++ x.pointers.now

-- the numbers of the entries that are made anew, in a directory of so many files
abbrev pub numbers_in : ℕ → Made → List ℕ
numbers_in files (Entries numbers) = numbers.now
numbers_in files Whole = all_entries files

-- those that this update makes anew
abbrev pub numbers_made : Exchange → List ℕ
numbers_made x = numbers_in x.files x.made

-- the free blocks that it needs
abbrev pub need_of : HeldVolume → Exchange → ℕ
need_of v x = x.file + needed v x.files (numbers_made x)

-- the first data block from one on in which one of these entries stands, where each has so many; or the end
pub record IsNextMade (made : List ℕ) (each from count next : ℕ) : Type 0 where
  pub low : from ≤ next
  pub high : next ≤ count
  pub none : (block : ℕ) → from ≤ block → block < next → list_any (λ n. block == n / each) made ≡ false
  pub is : next < count → list_any (λ n. next == n / each) made ≡ true

-- ---- what is allotted

-- the blocks that are taken for a file and for the directory, and those that are given back
abbrev pub own_fresh : HeldVolume → Allotment → List ℕ
own_fresh v a = a.file.items ++ drop 1 (fresh_of (v.disk.bsize / 4) a.directory.part.leaves v.directory a.directory.tree)

-- the latter are a file's, and those of the directory before that aren't kept
abbrev pub own_released : HeldVolume → Exchange → Allotment → List ℕ
own_released v x a = given_back x
    ++ drop 1 (released_of (v.disk.bsize / 4) a.directory.part.leaves v.directory a.directory.tree)

-- with those of the map
abbrev pub all_fresh : HeldVolume → Allotment → List ℕ
all_fresh v a = own_fresh v a ++ fresh_of (v.disk.bsize / 4) a.map_part.leaves v.map a.map_tree

-- and those that are given back
abbrev pub all_released : HeldVolume → Exchange → Allotment → List ℕ
all_released v x a = own_released v x a ++ released_of (v.disk.bsize / 4) a.map_part.leaves v.map a.map_tree

-- the blocks are allotted for what an update does to the files: so many for a file, and what the directory and the map don't keep
pub record IsAllottedFor (v : HeldVolume) (x : Exchange) (a : Allotment) : Type 0 where
  pub file : length a.file.items ≡ x.file
  pub written : a.directory.part.leaves ≡ blocks_made v.disk.bsize x.files (numbers_made x)
  pub origin : a.directory.tree.leaves ≡ (9 - v.label.origin) ∷ drop 1 a.directory.tree.leaves
  pub directory_is : length a.directory.tree.leaves ≡ directory_count v.disk.bsize x.files
  pub map_is : length a.map_tree.leaves ≡ up (up v.label.blocks 8) v.disk.bsize
  pub directory : KeepsTree (v.disk.bsize / 4) a.directory.part.leaves v.directory a.directory.tree
  pub directory_nodes : a.directory.part.nodes
      ≡ nodes_fresh (v.disk.bsize / 4) a.directory.part.leaves v.directory a.directory.tree
  pub map : KeepsTree (v.disk.bsize / 4) a.map_part.leaves v.map a.map_tree
  pub map_nodes : a.map_part.nodes ≡ nodes_fresh (v.disk.bsize / 4) a.map_part.leaves v.map a.map_tree
  pub touched : AreTouched v.disk.bsize
      (on_map v.label.blocks
      (turned (length (own_fresh v a) + map_size v.disk.bsize v.label.blocks) v.bits (own_fresh v a) (own_released v x a)
      v.map)) a.map_part.leaves
  pub lowest : all_fresh v a ≡ take (length (all_fresh v a)) (free_blocks v.bits)
  pub marks : a.map ≡ with_freed (all_released v x a) (with_marked (all_fresh v a) v.bits)

-- ---- the steps to it

-- the new directory begins in the other one of blocks 4 and 5, and takes these blocks behind it; the blocks of the old one that it
-- doesn't keep are told
pub record SharesDirectory (v : HeldVolume) (files : ℕ) (blocks : List ℕ) (asked : TreePart) (d : NewDirectory) (left : List ℕ) :
    Type 0 where
  pub places_are : d.part ≡ asked
  pub origin : d.tree.leaves ≡ (9 - v.label.origin) ∷ drop 1 d.tree.leaves
  pub count : length d.tree.leaves ≡ directory_count v.disk.bsize files
  pub keeps : KeepsTree (v.disk.bsize / 4) d.part.leaves v.directory d.tree
  pub fresh : drop 1 (fresh_of (v.disk.bsize / 4) d.part.leaves v.directory d.tree)
      ≡ take (length d.part.leaves + length d.part.nodes - 1) blocks
  pub released : left ≡ released_of (v.disk.bsize / 4) d.part.leaves v.directory d.tree

-- the same of the map, which has as many data blocks as before
pub record MapIsShared (v : HeldVolume) (written blocks : List ℕ) (tree : HeldTree) (places : TreePart) (left : List ℕ) :
    Type 0 where
  pub leaves_are : places.leaves ≡ written
  pub nodes_are : places.nodes ≡ nodes_fresh (v.disk.bsize / 4) written v.map tree
  pub count : length tree.leaves ≡ length v.map.leaves
  pub keeps : KeepsTree (v.disk.bsize / 4) written v.map tree
  pub fresh : fresh_of (v.disk.bsize / 4) written v.map tree
      ≡ take (length places.leaves + length places.nodes) blocks
  pub few : length places.leaves + length places.nodes ≤ map_size v.disk.bsize v.label.blocks
  pub released : left ≡ released_of (v.disk.bsize / 4) written v.map tree

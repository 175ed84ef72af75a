-- What follows for trees of blocks.
use Rattle.std.specs.Prelude.{◌≡◌, ◌↔◌, ◌⊎◌, ℕ, ◌+◌, ◌^◌, ◌<◌, ◌≤◌, true, List, ◌∷◌, ◌++◌, length, take, map, All, Option, Some, Result, Ok}
use Rattle.std.specs.List.{concat}
use Rattle.byteorder.specs.Endian.{big_bytes}
use Rattle.cms_fields.specs.Numbers.{up, is_shape}
use Rattle.cms_model.specs.Lists.{In}
use Rattle.cms_model.specs.Trees.{Image, Form, Met, pointers, children, tree}
use Rattle.cms_model.specs.Sizes.{levels, tree_size}
use Rattle.cms_model.specs.declared.fault.OpenFault.{OpenFault}

-- so many levels are a shape exactly where they are the least with room for all data blocks
abbrev pub ShapeIsLeast : Type 0
ShapeIsLeast = (fan blocks k : ℕ) → 2 ≤ fan → blocks < 2 ^ 32 → (is_shape fan blocks k ≡ true) ↔ (k ≡ levels fan blocks)

-- a tree that is read has as many data blocks as were asked for, and as many blocks as its size says
abbrev pub TreeHasSize : Type 0
TreeHasSize =
    (form : Form) (image : Image) (k : ℕ) (first : Option ℕ) (holder root count : ℕ) (met : Met) → 2 ≤ form.fan → 1 ≤ count
    → count < 2 ^ 32 → is_shape form.fan count k ≡ true
    → tree form image k first holder root count ≡ Ok met → (length met.leaves ≡ count) × (length met.blocks ≡ tree_size form.fan count)

-- each block of a tree lies from 6 to the last, but for a first data block with a fixed place
abbrev pub TreeIsWithin : Type 0
TreeIsWithin =
    (form : Form) (image : Image) (k : ℕ) (first : Option ℕ) (holder root count : ℕ) (met : Met)
    → tree form image k first holder root count ≡ Ok met → (n : ℕ) → In n met.blocks → ((6 ≤ n) × (n ≤ form.last)) ⊎ (first ≡ Some n)

-- the data blocks of a tree are among its blocks
abbrev pub LeavesAreBlocks : Type 0
LeavesAreBlocks =
    (form : Form) (image : Image) (k : ℕ) (first : Option ℕ) (holder root count : ℕ) (met : Met)
    → tree form image k first holder root count ≡ Ok met → (n : ℕ) → In n met.leaves → In n met.blocks

-- a first data block with a fixed place stands there
abbrev pub FirstIsFixed : Type 0
FirstIsFixed =
    (form : Form) (image : Image) (k fixed holder root count : ℕ) (met : Met) → 1 ≤ form.fan → 1 ≤ count
    → tree form image k (Some fixed) holder root count ≡ Ok met → (more : List ℕ) × (met.leaves ≡ fixed ∷ more)

-- a tree is the same in each image that has the same bytes in its blocks, whatever block its root's number stands in
abbrev pub TreeRestsOnItsBlocks : Type 0
TreeRestsOnItsBlocks =
    (form : Form) (before later : Image) (k : ℕ) (first : Option ℕ) (holder other root count : ℕ) (met : Met)
    → tree form before k first holder root count ≡ Ok met → ((n : ℕ) → In n met.blocks → before n ≡ later n)
    → tree form later k first other root count ≡ Ok met

-- of the words in a pointer block only as many are looked at as the data blocks below it need
abbrev pub OnlyItsPointers : Type 0
OnlyItsPointers =
    (below : Option ℕ → ℕ → ℕ → ℕ → Result Met OpenFault) (size holder : ℕ) (ps : List ℕ) (count : ℕ) (first : Option ℕ) → 1 ≤ size
    → children below size holder (take (up count size) ps) count first ≡ children below size holder ps count first

-- a pointer as it is stored: its block, and the bytes that stand beside the block's number
pub record Cell : Type 0 where
  pub block : ℕ
  pub beside : List ℕ

-- the bytes of a pointer, with what stands beside its number
abbrev pub cell_bytes : Cell → List ℕ
cell_bytes c = big_bytes 4 c.block ++ c.beside

-- it fits in so many bytes
pub record FitsCell (stride : ℕ) (c : Cell) : Type 0 where
  pub word : c.block < 2 ^ 32
  pub wide : 4 + length c.beside ≡ stride

-- stored pointers are read again, with those behind them
abbrev pub PointersAreRead : Type 0
PointersAreRead =
    (stride more : ℕ) (cells : List Cell) (rest : List ℕ) → All (FitsCell stride) cells
    → pointers (length cells + more) stride (concat (map cell_bytes cells) ++ rest) ≡ map (λ c. c.block) cells ++ pointers more stride rest

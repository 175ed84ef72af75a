-- The bits of blocks by their places in a map, and the map of which an update writes some data
-- blocks.
use Rattle.std.specs.Prelude.{◌≡◌, ℕ, ◌-◌, ◌*◌, ◌≤◌, Bool, false, List, length, slice_index, slice_index_or}
use Rattle.cms_fields.specs.Numbers.{up}
use Rattle.cms_model.specs.Lists.{In}
use Rattle.cms_model.specs.Maps.{is_marked}
use Rattle.cms_model.specs.Trees.{Image, bytes_at}
use Rattle.cms_map.specs.Bits.{HasFixed, bits_in, bytes_from}
use Rattle.cms_map.specs.Touched.{data_block}
use Rattle.cms_held.specs.SharedBlocks.{AreLong, SharesBlocks}

-- the place of a block's bit in its data block, as the number of the block that has it there in the
-- first one
abbrev pub bit_place : ℕ → ℕ → ℕ
bit_place bsize n = n - data_block bsize n * (8 * bsize)

-- the bit of a block stands in one data block of the map
abbrev pub MapByPlace : Type 0
MapByPlace =
    (bsize : ℕ) (image : Image) (leaves : List ℕ) (n : ℕ) → 1 ≤ bsize → AreLong bsize image leaves
    → 1 ≤ n → n ≤ 8 * (length leaves * bsize)
    → is_marked (bytes_at image leaves) n
    ≡ is_marked (image (slice_index leaves (data_block bsize n))) (bit_place bsize n)

-- the bytes of a map say these bits of so many blocks: in them the bits of blocks 1 to 5 may be any
pub record SaysMap (total : ℕ) (bits : List Bool) (bytes : List ℕ) : Type 0 where
  pub bits_are : bits_in total bytes ≡ bits
  pub marked : (n : ℕ) → 6 ≤ n → n ≤ total → is_marked bytes n ≡ slice_index_or bits (n - 1) false

-- the bits outside these data blocks are as they were
abbrev pub BitsStay : ℕ → ℕ → List ℕ → List Bool → List Bool → Type 0
BitsStay bsize total written old bits =
    (n : ℕ) → 1 ≤ n → n ≤ total → (In (data_block bsize n) written → ⊥)
    → slice_index_or bits (n - 1) false ≡ slice_index_or old (n - 1) false

-- a map of which some data blocks are written, those of each bit that changes among them, says the
-- new bits
abbrev pub MapIsShared : Type 0
MapIsShared =
    (bsize total : ℕ) (before later : Image) (olds leaves written : List ℕ) (old bits : List Bool)
    → 1 ≤ bsize → length leaves ≡ up (up total 8) bsize → length olds ≡ up (up total 8) bsize
    → AreLong bsize before olds → bits_in total (bytes_at before olds) ≡ old
    → length bits ≡ total → HasFixed bits → BitsStay bsize total written old bits
    → SharesBlocks before later olds leaves written (λ j. bytes_from (j * bsize) bsize bits)
    → SaysMap total bits (bytes_at later leaves)

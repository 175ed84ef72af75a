-- The allocation map as a list of bits, that of block 1 first; true is in use.
use Rattle.std.specs.Prelude.{◌≡◌, ◌↔◌, ℕ, zero, suc, ◌+◌, ◌-◌, ◌*◌, ◌^◌, ◌≤◌, Bool, true, false, if◌then◌else◌, List, [], ◌∷◌, length, map, take, drop, slice_set, slice_index_or}
use Rattle.std.specs.List.Sorted.{IsStrictlyIncreasing}
use Rattle.std.specs.List.{range_with_len}
use Rattle.std.specs.Int.{div_ceil}
use Rattle.cms_model.specs.Lists.{In}
use Rattle.cms_model.specs.Maps.{is_used}

-- the bits of blocks 1 to n in a map's bytes
unfoldable pub bits_in : ℕ → List ℕ → List Bool
bits_in n bytes = map (is_used bytes) (range_with_len 1 n)

-- the free blocks in ascending order, where the first bit is that of block n
unfoldable pub free_from : ℕ → List Bool → List ℕ
free_from n [] = []
free_from n (true ∷ bits) = free_from (n + 1) bits
free_from n (false ∷ bits) = n ∷ free_from (n + 1) bits

-- the free blocks in ascending order
abbrev pub free_blocks : List Bool → List ℕ
free_blocks bits = free_from 1 bits

-- none of the blocks up to this one is free
abbrev pub NoneIsFree : ℕ → List Bool → Type 0
NoneIsFree low bits = free_blocks (take low bits) ≡ []

-- the map with these blocks in use
unfoldable pub with_marked : List ℕ → List Bool → List Bool
with_marked [] bits = bits
with_marked (n ∷ ns) bits = with_marked ns (slice_set bits (n - 1) true)

-- the number of so many bits, the high one first; those past the last are 0
unfoldable pub number_of : ℕ → List Bool → ℕ
number_of zero bits = 0
number_of (suc k) [] = 0
number_of (suc k) (bit ∷ bits) = (if bit then 2 ^ k else 0) + number_of k bits

-- the map's byte at a place from 0: the bits of eight blocks
unfoldable pub byte_at : List Bool → ℕ → ℕ
byte_at bits at = number_of 8 (drop (8 * at) bits)

-- so many of the map's bytes, from one on
unfoldable pub bytes_from : ℕ → ℕ → List Bool → List ℕ
bytes_from at count bits = map (byte_at bits) (range_with_len at count)

-- how a map of so many blocks is held: its bits in no more bytes than they need, those past the last block 0, and the count of free blocks
pub record IsHeld (blocks free : ℕ) (bytes : List ℕ) : Type 0 where
  pub bits : bytes ≡ bytes_from 0 (div_ceil blocks 8) (bits_in blocks bytes)
  pub count : free ≡ length (free_blocks (bits_in blocks bytes))

-- blocks 1 to 5 are in use
abbrev pub HasFixed : List Bool → Type 0
HasFixed bits = (n : ℕ) → 1 ≤ n → n ≤ 5 → n ≤ length bits → slice_index_or bits (n - 1) false ≡ true

-- the bytes of a map that has room in them are read as the same map
abbrev pub ReadsBack : Type 0
ReadsBack =
    (bits : List Bool) (count : ℕ) → length bits ≤ 8 * count → HasFixed bits
    → bits_in (length bits) (bytes_from 0 count bits) ≡ bits

-- the free blocks are those that aren't in use
abbrev pub FreeAreUnused : Type 0
FreeAreUnused =
    (bits : List Bool) (n : ℕ)
    → In n (free_blocks bits) ↔ ((1 ≤ n) × (n ≤ length bits) × (slice_index_or bits (n - 1) true ≡ false))

-- the free blocks ascend
abbrev pub FreeAscend : Type 0
FreeAscend = (bits : List Bool) → IsStrictlyIncreasing (free_blocks bits)

-- Numbers in bytes, the highest byte first.
use Rattle.std.specs.Prelude.{ℕ, ◌+◌, List, ◌++◌, length, take, drop, slice_index}
use Rattle.byteorder.specs.Endian.{big_number}

-- the number in the four bytes at a place
unfoldable pub word : List ℕ → ℕ → ℕ
word bytes at = big_number 4 (drop at bytes)

-- the number in the two bytes at a place
unfoldable pub half : List ℕ → ℕ → ℕ
half bytes at = big_number 2 (drop at bytes)

-- the byte at a place
abbrev pub byte : List ℕ → ℕ → ℕ
byte bytes at = slice_index bytes at

-- the bytes with others written over them at a place
abbrev pub overwritten : ℕ → List ℕ → List ℕ → List ℕ
overwritten at field bytes = take at bytes ++ (field ++ drop (at + length field) bytes)

-- What the code rounds up is the quotient of the format.
use Rattle.std.proofs.Common.{◌≡◌, ◌≤◌, ◌/◌, ℕ, ◌∙◌, ap, arith}
use Rattle.std.specs.Int.{div_ceil}
use Rattle.cms_fields.specs.Numbers.{up}
use Rattle.cms_tree.proofs.Sums.{div_ceil_is}

-- so many blocks have room for so many bytes
pub rounded : (n x bsize : ℕ) → n ≡ div_ceil x bsize → 512 ≤ bsize → n ≡ up x bsize
rounded n x bsize is low = is ∙ div_ceil_is x bsize (omega arith)

bytes_of_bits : (n x : ℕ) → n ≡ div_ceil x 8 → n ≡ up x 8
bytes_of_bits n x is = is ∙ div_ceil_is x 8 (omega arith)

-- and so many have room for so many bits
pub map_rounded : (n bytes total bsize : ℕ) → n ≡ div_ceil bytes bsize → bytes ≡ div_ceil total 8 → 512 ≤ bsize → n ≡ up (up total 8) bsize
map_rounded n bytes total bsize is bits low = rounded n bytes bsize is low ∙ ap (λ (k : ℕ). up k bsize) (bytes_of_bits bytes total bits)

-- a block has two pointers or more
pub four_to_a_pointer : (bsize : ℕ) → 512 ≤ bsize → 2 ≤ bsize / 4
four_to_a_pointer bsize low = omega arith

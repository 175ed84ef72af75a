-- The ready line.
use Rattle.std.specs.Prelude.{ℕ, zero, suc, ◌+◌, ◌/◌, ◌%◌, ◌^◌, ℤ, pos, negsuc, List, [], ◌∷◌, ◌++◌}

-- n decimal digits of a number, in EBCDIC
unfoldable pub digits_of : ℕ → ℕ → List ℕ
digits_of zero n = []
digits_of (suc k) n = (0xF0 + n / 10 ^ k % 10) ∷ digits_of k n

-- a return code in five places, the first of which is the sign of a negative one
unfoldable pub code_places : ℤ → List ℕ
code_places (pos n) = digits_of 5 n
code_places (negsuc n) = 0x60 ∷ digits_of 4 (suc n)

-- R( and the code and );
abbrev pub ready_with : ℤ → List ℕ
ready_with code = 0xD9 ∷ 0x4D ∷ (code_places code ++ 0x5D ∷ 0x5E ∷ [])

-- R; where the code is 0
unfoldable pub ready_line : ℤ → List ℕ
ready_line (pos zero) = 0xD9 ∷ 0x5E ∷ []
ready_line (pos (suc n)) = ready_with (pos (suc n))
ready_line (negsuc n) = ready_with (negsuc n)

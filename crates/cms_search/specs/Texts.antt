-- How commands show letters, devices and columns, in EBCDIC.
use Rattle.std.specs.Prelude.{ℕ, ◌+◌, ◌-◌, ◌/◌, ◌%◌, nat_lt, if◌then◌else◌, List, [], ◌∷◌, ◌++◌, length, replicate}

-- A for 0, Z for 25, and a blank past them
abbrev pub letter_text : ℕ → List ℕ
letter_text n = (if nat_lt n 9 then 0xC1 + n
    else (if nat_lt n 18 then 0xD1 + (n - 9)
    else (if nat_lt n 26 then 0xE2 + (n - 18)
    else 0x40))) ∷ []

-- the character of a hexadecimal digit, in capitals
abbrev pub hexadecimal_digit : ℕ → ℕ
hexadecimal_digit n = if nat_lt n 10 then 0xF0 + n else 0xC1 + (n - 10)

-- three hexadecimal digits in upper case
abbrev pub device_text : ℕ → List ℕ
device_text vdev =
    hexadecimal_digit (vdev / 256 % 16) ∷ hexadecimal_digit (vdev / 16 % 16) ∷ hexadecimal_digit (vdev % 16) ∷ []

-- a text at the left of so many places, and at the right
abbrev pub left_in : ℕ → List ℕ → List ℕ
left_in width text = text ++ replicate (width - length text) 0x40

-- a text at the right of a column
abbrev pub right_in : ℕ → List ℕ → List ℕ
right_in width text = replicate (width - length text) 0x40 ++ text

-- columns with one blank between
abbrev pub spaced : List (List ℕ) → List ℕ
spaced [] = []
spaced (column ∷ []) = column
spaced (column ∷ next ∷ columns) = column ++ 0x40 ∷ spaced (next ∷ columns)

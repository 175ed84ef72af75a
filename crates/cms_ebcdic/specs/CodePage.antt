-- IBM code page 037: its 95 printable characters.
use Rattle.std.specs.Prelude.{ℕ, ◌+◌, ◌-◌, ◌==◌, Bool, ◌&&◌, ◌||◌, nat_le, if◌then◌else◌, List, [], ◌∷◌, Option, None, unwrap_or, position, slice_get}
use Rattle.std.specs.Option.{option_map, option_and_then}

-- their codes in the order of ASCII, from the blank (32) to the tilde (126), a row of the ASCII table in each line
unfoldable pub code_page : List ℕ
code_page =
    0x40 ∷ 0x5A ∷ 0x7F ∷ 0x7B ∷ 0x5B ∷ 0x6C ∷ 0x50 ∷ 0x7D ∷ 0x4D ∷ 0x5D ∷ 0x5C ∷ 0x4E ∷ 0x6B ∷ 0x60 ∷ 0x4B ∷ 0x61 ∷
    0xF0 ∷ 0xF1 ∷ 0xF2 ∷ 0xF3 ∷ 0xF4 ∷ 0xF5 ∷ 0xF6 ∷ 0xF7 ∷ 0xF8 ∷ 0xF9 ∷ 0x7A ∷ 0x5E ∷ 0x4C ∷ 0x7E ∷ 0x6E ∷ 0x6F ∷
    0x7C ∷ 0xC1 ∷ 0xC2 ∷ 0xC3 ∷ 0xC4 ∷ 0xC5 ∷ 0xC6 ∷ 0xC7 ∷ 0xC8 ∷ 0xC9 ∷ 0xD1 ∷ 0xD2 ∷ 0xD3 ∷ 0xD4 ∷ 0xD5 ∷ 0xD6 ∷
    0xD7 ∷ 0xD8 ∷ 0xD9 ∷ 0xE2 ∷ 0xE3 ∷ 0xE4 ∷ 0xE5 ∷ 0xE6 ∷ 0xE7 ∷ 0xE8 ∷ 0xE9 ∷ 0xBA ∷ 0xE0 ∷ 0xBB ∷ 0xB0 ∷ 0x6D ∷
    0x79 ∷ 0x81 ∷ 0x82 ∷ 0x83 ∷ 0x84 ∷ 0x85 ∷ 0x86 ∷ 0x87 ∷ 0x88 ∷ 0x89 ∷ 0x91 ∷ 0x92 ∷ 0x93 ∷ 0x94 ∷ 0x95 ∷ 0x96 ∷
    0x97 ∷ 0x98 ∷ 0x99 ∷ 0xA2 ∷ 0xA3 ∷ 0xA4 ∷ 0xA5 ∷ 0xA6 ∷ 0xA7 ∷ 0xA8 ∷ 0xA9 ∷ 0xC0 ∷ 0x4F ∷ 0xD0 ∷ 0xA1 ∷ []

-- the code of an ASCII character, where it is printable
unfoldable pub code_of : ℕ → Option ℕ
code_of c = if nat_le 32 c then slice_get code_page (c - 32) else None

-- the ASCII character of a code, where it is one of the code page
unfoldable pub character_of : ℕ → Option ℕ
character_of x = option_map (λ k. 32 + k) (position (λ y. y == x) code_page)

-- as it is typed on an ASCII terminal: outside of the code page a period
unfoldable pub host_of : ℕ → ℕ
host_of x = unwrap_or (character_of x) 46

-- the character with a small letter a to z as its capital
abbrev pub capital_of : ℕ → ℕ
capital_of c = if nat_le 97 c && nat_le c 122 then c - 32 else c

-- the character with a capital A to Z as its small letter
abbrev pub small_of : ℕ → ℕ
small_of c = if nat_le 65 c && nat_le c 90 then c + 32 else c

-- a code with a small letter as its capital; any other is itself
unfoldable pub upper_of : ℕ → ℕ
upper_of x = unwrap_or (option_and_then (λ c. code_of (capital_of c)) (character_of x)) x

-- a code with a capital as its small letter; any other is itself
unfoldable pub lower_of : ℕ → ℕ
lower_of x = unwrap_or (option_and_then (λ c. code_of (small_of c)) (character_of x)) x

-- a number is from low to high
abbrev pub is_within : ℕ → ℕ → ℕ → Bool
is_within low high x = nat_le low x && nat_le x high

-- the codes of a to z stand in three runs
abbrev pub is_small : ℕ → Bool
is_small x = (is_within 0x81 0x89 x || is_within 0x91 0x99 x) || is_within 0xA2 0xA9 x

-- and those of A to Z
abbrev pub is_capital : ℕ → Bool
is_capital x = (is_within 0xC1 0xC9 x || is_within 0xD1 0xD9 x) || is_within 0xE2 0xE9 x

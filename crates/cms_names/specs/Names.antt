-- The characters of names and patterns, and the words that spell parts.
use Rattle.std.specs.Prelude.{ℕ, ◌-◌, Bool, not, ◌==◌, ◌&&◌, ◌||◌, nat_le, nat_lt, List, ◌++◌, length, replicate, position, Result, Ok, Err, if◌then◌else◌}
use Rattle.std.specs.List.{list_all}
use Rattle.std.specs.Option.{option_map_or}
use Rattle.cms_names.specs.declared.fault.NameFault.{NameFault}
use Rattle.cms_names.specs.declared.fault.NameFault.TheVariants.{Empty, TooLong, BadChar}

-- a number lies from low to high, both included
abbrev pub is_between : ℕ → ℕ → ℕ → Bool
is_between low high x = nat_le low x && nat_le x high

-- A to Z, 0 to 9 and $ # @ + - : _ in EBCDIC
unfoldable pub is_name_character : ℕ → Bool
is_name_character x =
    is_between 0xC1 0xC9 x || is_between 0xD1 0xD9 x || is_between 0xE2 0xE9 x || is_between 0xF0 0xF9 x
    || (x == 0x5B) || (x == 0x7B) || (x == 0x7C) || (x == 0x4E) || (x == 0x60) || (x == 0x7A) || (x == 0x6D)

-- a name character, * or %
unfoldable pub is_pattern_character : ℕ → Bool
is_pattern_character x = is_name_character x || (x == 0x5C) || (x == 0x6C)

-- 1 to 8 such characters
unfoldable pub is_text_of : (ℕ → Bool) → List ℕ → Bool
is_text_of is_allowed text = is_between 1 8 (length text) && list_all is_allowed text

-- a file name or a file type
abbrev pub is_part : List ℕ → Bool
is_part text = is_text_of is_name_character text

-- a pattern of file names or file types
abbrev pub is_pattern : List ℕ → Bool
is_pattern text = is_text_of is_pattern_character text

-- a text filled with blanks to 8 bytes
unfoldable pub filled : List ℕ → List ℕ
filled text = text ++ replicate (8 - length text) 0x40

-- a word of 1 to 8 such characters, or the first test that it fails
unfoldable pub text_of : (ℕ → Bool) → List ℕ → Result (List ℕ) NameFault
text_of is_allowed word =
    if length word == 0 then Err Empty
    else (if nat_lt 8 (length word) then Err TooLong
    else option_map_or (λ place. Err (BadChar place)) (position (λ c. not (is_allowed c)) word) (Ok word))

-- the part that a word spells, or the first test that it fails
abbrev pub part_of : List ℕ → Result (List ℕ) NameFault
part_of word = text_of is_name_character word

-- the pattern that a word spells, or the first test that it fails
abbrev pub pattern_of : List ℕ → Result (List ℕ) NameFault
pattern_of word = text_of is_pattern_character word

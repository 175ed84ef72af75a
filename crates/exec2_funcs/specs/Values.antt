-- What functions make of texts.
use Rattle.std.specs.Prelude.{ℕ, ◌+◌, ◌-◌, ◌==◌, nat_eq, Bool, not, List, [], ◌∷◌, ◌++◌, length, take, drop, map, filter, replicate, position, slice_get, unwrap_or}
use Rattle.std.specs.List.{join_with_byte, starts_with}
use Rattle.std.specs.Option.{option_map_or}
use Rattle.std.specs.Str.{bytes_eq}
use Rattle.cms_text.specs.Texts.{Text}

-- so many blanks
abbrev pub blanks : ℕ → Text
blanks n = replicate n 0x40

-- the first bytes, so many, filled with blanks on the right
abbrev pub first_filled : ℕ → Text → Text
first_filled n text = take n text ++ blanks (n - length text)

-- the last bytes, so many, filled with blanks on the left
abbrev pub last_filled : ℕ → Text → Text
last_filled n text = blanks (n - length text) ++ drop (length text - n) text

-- the words with a blank between each two
abbrev pub joined : List Text → Text
joined = join_with_byte 0x40

-- the text that words make: joined, the empty ones left out
abbrev pub text_of : List Text → Text
text_of words = joined (filter (λ word. not (length word == 0)) words)

-- the number, from 1, of the first that passes the test, or 0
abbrev pub first_number : {A : Type 0} → (A → Bool) → List A → ℕ
first_number test items = option_map_or (λ place. place + 1) (position test items) 0

-- a text from each of its places on, the end among them
unfoldable pub rests : Text → List Text
rests [] = [] ∷ []
rests (byte ∷ more) = (byte ∷ more) ∷ rests more

-- the first place, from 1, at which a text goes on with the part, or 0
abbrev pub location_of : Text → Text → ℕ
location_of part text = first_number (λ rest. starts_with nat_eq rest part) (rests text)

-- the number of the first word that is equal, byte by byte, or 0
abbrev pub position_of : Text → List Text → ℕ
position_of word words = first_number (bytes_eq word) words

-- the text from a place on, which counts from 1
abbrev pub from_place : ℕ → Text → Text
from_place place text = drop (place - 1) text

-- what a byte becomes: the byte of `out` at its first place in `from`, a blank where `out` is too short, and itself where `from`
-- doesn't have it
abbrev pub translation : Text → Text → ℕ → ℕ
translation out from byte = option_map_or (λ place. unwrap_or (slice_get out place) 0x40) (position (λ x. x == byte) from) byte

-- each byte of the text translated
abbrev pub translated : Text → Text → Text → Text
translated text out from = map (translation out from) text

-- the n-th of the words, from 1, or empty
abbrev pub nth_word : ℕ → List Text → Text
nth_word n words = unwrap_or (slice_get words (n - 1)) []

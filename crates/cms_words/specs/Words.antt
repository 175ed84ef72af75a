-- What the program's words say, or why they are refused.
use Rattle.std.specs.Prelude.{ℕ, ◌+◌, nat_le, ◌==◌, ℤ, pos, Bool, if◌then◌else◌, List, [], ◌∷◌, ◌++◌, map, codes, Option, Some, None, Result, Ok, Err, ok_or, ⊤}
use Rattle.std.specs.List.{list_any}
use Rattle.std.specs.Option.{option_map_or}
use Rattle.clap.specs.Words.{Row, Text}
use Rattle.cms_words.specs.Numbers.{at_least, number_up_to, offset_of}
use Rattle.cms_words.specs.UnitWords.{unit_word_of}
use Rattle.cms_words.specs.Command.{are_taken, rows_in, units_in, value_in}
use Rattle.cms_words.specs.declared.fault.WordFault.{WordFault}
use Rattle.cms_words.specs.declared.fault.WordFault.TheVariants.{Syntax, Unit, Turns, Zone, Twice, Seed, Memory}
use Rattle.cms_words.specs.declared.unit.UnitWord.{UnitWord}
use Rattle.cms_words.specs.declared.words.Words.{Words}

infixl 10 ◌>>=◌
-- goes on with what was read, or with the refusal
abbrev pub ◌>>=◌ : {A B : Type 0} → Result A WordFault → (A → Result B WordFault) → Result B WordFault
(Ok x) >>= f = f x
(Err e) >>= f = Err e

-- ---- the values, each with its refusal

-- the k-th unit word: there are 16 at most
abbrev pub unit_at : ℕ → Text → Result UnitWord WordFault
unit_at k word = if nat_le 17 k then Err (Unit k) else ok_or (unit_word_of word) (Unit k)

-- the unit words from the k-th on
unfoldable pub units_from : ℕ → List Text → Result (List UnitWord) WordFault
units_from k [] = Ok []
units_from k (word ∷ words) = do
  unit ← unit_at k word
  units ← units_from (k + 1) words
  Ok (unit ∷ units)

-- -t TURNS: 1 to 1,000,000,000, else 1,000,000
unfoldable pub turns_of : Option Text → Result ℕ WordFault
turns_of None = Ok 1000000
turns_of (Some word) = ok_or (at_least 1 (number_up_to 1000000000 word)) Turns

-- -z ZONE: the seconds that it adds to the clock, else none
unfoldable pub zone_of : Option Text → Result ℤ WordFault
zone_of None = Ok (pos 0)
zone_of (Some word) = ok_or (offset_of word) Zone

-- -g NUMBER: to 2,147,483,647
unfoldable pub seed_of : Option Text → Result (Option ℕ) WordFault
seed_of None = Ok None
seed_of (Some word) = option_map_or (λ n. Ok (Some n)) (number_up_to 2147483647 word) (Err Seed)

-- the devices of unit words
abbrev pub devices_of : List UnitWord → List ℕ
devices_of units = map (λ u. u.vdev) units

-- a device is among these
abbrev pub has_device : List ℕ → ℕ → Bool
has_device devices vdev = list_any (λ d. d == vdev) devices

-- the first device of the second list that stands before it there, or in the first list
unfoldable pub repeated_device : List ℕ → List ℕ → Option ℕ
repeated_device before [] = None
repeated_device before (d ∷ ds) = if has_device before d then Some d else repeated_device (before ++ d ∷ []) ds

-- no two units have one device
abbrev pub without_repeat : List UnitWord → Result (⊤) WordFault
without_repeat units = option_map_or (λ d. Err (Twice d)) (repeated_device [] (devices_of units)) (Ok tt)

-- ---- all words

-- the values in the order of their refusals: units, turns, zone, a device twice, number
unfoldable pub values_of : List Row → Result Words WordFault
values_of rows = do
  units ← units_from 1 (units_in rows)
  turns ← turns_of (value_in (codes "turns") rows)
  offset ← zone_of (value_in (codes "zone") rows)
  one ← without_repeat units
  seed ← seed_of (value_in (codes "seed") rows)
  Ok (record { turns = turns; offset = offset; seed = seed; units = units })

-- the program's words, its name first: Syntax exactly where clap's definition doesn't take them
unfoldable pub words_of : List Text → Result Words WordFault
words_of words = if are_taken words then values_of (rows_in words) else Err Syntax

-- the number of a reason
abbrev pub number_of : WordFault → ℕ
number_of Syntax = 1
number_of (Unit k) = 2
number_of Turns = 3
number_of Zone = 4
number_of (Twice d) = 5
number_of Seed = 6
number_of Memory = 0

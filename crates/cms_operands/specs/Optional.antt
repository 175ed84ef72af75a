-- Operands that may be left out, and what is meant without them.
use Rattle.std.specs.Prelude.{ℕ, List, codes, Option, Some, None, Result, Ok}
use Rattle.cms_text.specs.Texts.{coded}
use Rattle.cms_line.specs.declared.token.Token.{Token}
use Rattle.cms_operands.specs.Operands.{access_mode, device, given, letter_or_all, number, number_or_all, pattern, reading_mode, without_ext, writing_mode}
use Rattle.cms_operands.specs.declared.operand.AccessMode.{AccessMode}
use Rattle.cms_operands.specs.declared.operand.WriteMode.{WriteMode}
use Rattle.cms_operands.specs.declared.refusal.Refusal.{Refusal}
use Rattle.cms_operands.specs.declared.mode.ReadMode.{ReadMode}
use Rattle.cms_operands.specs.declared.mode.ReadMode.TheVariants as reading

-- what an operand is read as, or what is meant where it isn't given
abbrev pub read_or : {A : Type 0} → A → (List ℕ → Result A Refusal) → Option (List ℕ) → Result A Refusal
read_or default read None = Ok default
read_or default read (Some text) = read text

-- disk A, with no mode number
abbrev pub on_a : WriteMode
on_a = record { letter = 0; number = None }

-- the pattern of all names
abbrev pub all_names : List ℕ
all_names = coded (codes "*")

-- the mode of an input; A where it isn't given
abbrev pub reading_mode_or_a : List Token → ℕ → Result ReadMode Refusal
reading_mode_or_a operands place = read_or (reading.Letter 0) (reading_mode place) (given operands place)

-- the mode of a disk that is written; A where it isn't given
abbrev pub writing_mode_or_a : List Token → ℕ → Result WriteMode Refusal
writing_mode_or_a operands place = read_or on_a (writing_mode place) (given operands place)

-- the letter as which a disk is accessed; A alone where it isn't given
abbrev pub access_mode_or_a : List Token → ℕ → Result AccessMode Refusal
access_mode_or_a operands place = read_or (without_ext 0) (access_mode place) (given operands place)

-- a letter; none for *, and where it isn't given
abbrev pub given_letter_or_all : List Token → ℕ → Result (Option ℕ) Refusal
given_letter_or_all operands place = read_or None (letter_or_all place) (given operands place)

-- a device, or this one where it isn't given
abbrev pub device_or : List Token → ℕ → ℕ → Result ℕ Refusal
device_or operands place default = read_or default (device place) (given operands place)

-- a number within a range, or this one where it isn't given
abbrev pub number_or : ℕ → ℕ → List Token → ℕ → ℕ → Result ℕ Refusal
number_or from to operands place default = read_or default (number from to place) (given operands place)

-- a number within a range; none for *, and where it isn't given
abbrev pub given_number_or_all : ℕ → ℕ → List Token → ℕ → Result (Option ℕ) Refusal
given_number_or_all from to operands place = read_or None (number_or_all from to place) (given operands place)

-- a pattern; * where it isn't given
abbrev pub pattern_or_all : List Token → ℕ → Result (List ℕ) Refusal
pattern_or_all operands place = read_or all_names (pattern place) (given operands place)

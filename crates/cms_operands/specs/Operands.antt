-- The operands of a line, and what each kind of operand says. A command reads its operands from left to right, one after another, so the
-- first that is refused decides; a missing one is met behind all that are there.
use Rattle.std.specs.Prelude.{ℕ, ◌+◌, ◌-◌, ◌*◌, ◌==◌, if◌then◌else◌, List, [], ◌∷◌, length, take, slice_get, Option, Some, None, Result, Ok, Err, ⊤}
use Rattle.std.specs.Option.{option_map, option_map_or, option_and_then, unwrap_or}
use Rattle.std.specs.Str.{bytes_eq}
use Rattle.cms_names.specs.Modes.{given_part, mode_word_of}
use Rattle.cms_names.specs.Names.{is_between, part_of, pattern_of}
use Rattle.cms_names.specs.declared.fault.NameFault.{NameFault}
use Rattle.cms_names.specs.declared.mode.ModeWord.{ModeWord}
use Rattle.cms_names.specs.declared.mode.ModeWord.TheVariants as mode
use Rattle.cms_text.specs.Numbers.{magnitude_of}
use Rattle.cms_line.specs.Options.{first_left}
use Rattle.cms_line.specs.declared.token.Token.{Token}
use Rattle.cms_operands.specs.declared.operand.AccessMode.{AccessMode}
use Rattle.cms_operands.specs.declared.operand.Target.{Target}
use Rattle.cms_operands.specs.declared.operand.Target.TheVariants as target
use Rattle.cms_operands.specs.declared.operand.WriteMode.{WriteMode}
use Rattle.cms_operands.specs.declared.refusal.Refusal.{Refusal}
use Rattle.cms_operands.specs.declared.refusal.Refusal.TheVariants.{BadName, BadMode, BadOperand, Missing}
use Rattle.cms_operands.specs.declared.mode.ReadMode.{ReadMode}
use Rattle.cms_operands.specs.declared.mode.ReadMode.TheVariants as reading

-- ---- which words are operands

-- the words in front of the options, the command's own first: the operands have the places 1, 2 and so on
unfoldable pub operands_of : List Token → List Token
operands_of words = take (unwrap_or (first_left words) (length words)) words

-- the text of an operand, where it is there
unfoldable pub given : List Token → ℕ → Option (List ℕ)
given operands place = option_map (λ word. word.text) (slice_get operands place)

-- an operand that must be there
unfoldable pub needed : List Token → ℕ → Result (List ℕ) Refusal
needed operands place = option_map_or (λ text. Ok text) (given operands place) (Err Missing)

-- an operand that may be left out, and is this word then
unfoldable pub given_or : List Token → ℕ → List ℕ → List ℕ
given_or operands place default = unwrap_or (given operands place) default

-- no operand stands at a place or behind it
unfoldable pub ended : List Token → ℕ → Result ⊤ Refusal
ended operands place = option_map_or (λ text. Err (BadOperand place)) (given operands place) (Ok tt)

-- the value of a word, or a refusal where it has none
abbrev pub or_refused : {A : Type 0} → Option A → Refusal → Result A Refusal
or_refused (Some x) why = Ok x
or_refused None why = Err why

-- ---- names

-- what was read, or that the word is no name
abbrev pub or_bad_name : {A : Type 0} → ℕ → Result A NameFault → Result A Refusal
or_bad_name place (Ok x) = Ok x
or_bad_name place (Err e) = Err (BadName place)

-- a file name or a file type
unfoldable pub name : ℕ → List ℕ → Result (List ℕ) Refusal
name place text = or_bad_name place (part_of text)

-- a file name or a file type, or none where a sign stands for it
abbrev pub name_unless : ℕ → ℕ → List ℕ → Result (Option (List ℕ)) Refusal
name_unless sign place text = if bytes_eq text (sign ∷ []) then Ok None else or_bad_name place (given_part (part_of text))

-- * stands for every name
unfoldable pub name_or_all : ℕ → List ℕ → Result (Option (List ℕ)) Refusal
name_or_all place text = name_unless 0x5C place text

-- = stands for the input's
unfoldable pub name_or_same : ℕ → List ℕ → Result (Option (List ℕ)) Refusal
name_or_same place text = name_unless 0x7E place text

-- a pattern of file names or file types
unfoldable pub pattern : ℕ → List ℕ → Result (List ℕ) Refusal
pattern place text = or_bad_name place (pattern_of text)

-- ---- modes

-- *, a letter, or a letter and a number
abbrev pub reading_of : Option ModeWord → Option ReadMode
reading_of None = None
reading_of (Some mode.Any) = Some reading.Any
reading_of (Some mode.Same) = None
reading_of (Some (mode.Letter n)) = Some (reading.Letter n)
reading_of (Some (mode.Numbered n k)) = Some (reading.Numbered n k)

-- the mode of an input, or that the word is none
unfoldable pub reading_mode : ℕ → List ℕ → Result ReadMode Refusal
reading_mode place text = or_refused (reading_of (mode_word_of text)) (BadMode place)

-- a letter, or a letter and a number
abbrev pub writing_of : Option ModeWord → Option WriteMode
writing_of None = None
writing_of (Some mode.Any) = None
writing_of (Some mode.Same) = None
writing_of (Some (mode.Letter n)) = Some (record { letter = n; number = None })
writing_of (Some (mode.Numbered n k)) = Some (record { letter = n; number = Some k })

-- the mode of a disk that is written, or that the word is none
unfoldable pub writing_mode : ℕ → List ℕ → Result WriteMode Refusal
writing_mode place text = or_refused (writing_of (mode_word_of text)) (BadMode place)

-- = leaves letter and number to the input
abbrev pub output_of : Option ModeWord → Option (Option WriteMode)
output_of None = None
output_of (Some mode.Any) = None
output_of (Some mode.Same) = Some None
output_of (Some (mode.Letter n)) = Some (Some (record { letter = n; number = None }))
output_of (Some (mode.Numbered n k)) = Some (Some (record { letter = n; number = Some k }))

-- the mode of an output, none for =, or that the word is none
unfoldable pub output_mode : ℕ → List ℕ → Result (Option WriteMode) Refusal
output_mode place text = or_refused (output_of (mode_word_of text)) (BadMode place)

-- a letter alone, from 0 for A
abbrev pub letter_of_word : Option ModeWord → Option ℕ
letter_of_word None = None
letter_of_word (Some mode.Any) = None
letter_of_word (Some mode.Same) = None
letter_of_word (Some (mode.Letter n)) = Some n
letter_of_word (Some (mode.Numbered n k)) = None

-- the letter that a word is
abbrev pub letter_in : List ℕ → Option ℕ
letter_in text = letter_of_word (mode_word_of text)

-- the same, or that the word is none
unfoldable pub letter : ℕ → List ℕ → Result ℕ Refusal
letter place text = or_refused (letter_in text) (BadMode place)

-- a letter, or * for none
abbrev pub letter_unless_all : Option ModeWord → Option (Option ℕ)
letter_unless_all None = None
letter_unless_all (Some mode.Any) = Some None
letter_unless_all (Some mode.Same) = None
letter_unless_all (Some (mode.Letter n)) = Some (Some n)
letter_unless_all (Some (mode.Numbered n k)) = None

-- the same, none for *
unfoldable pub letter_or_all : ℕ → List ℕ → Result (Option ℕ) Refusal
letter_or_all place text = or_refused (letter_unless_all (mode_word_of text)) (BadMode place)

-- a letter, and the letter whose extension it is to be behind a stroke
abbrev pub with_ext : Option ℕ → Option ℕ → Option AccessMode
with_ext None ext = None
with_ext (Some n) None = None
with_ext (Some n) (Some ext) = Some (record { letter = n; ext = Some ext })

-- a letter alone
abbrev pub without_ext : ℕ → AccessMode
without_ext n = record { letter = n; ext = None }

-- a letter, a stroke, and the letter whose extension it is
abbrev pub extended : ℕ → ℕ → ℕ → Option AccessMode
extended a stroke b = if stroke == 0x61 then with_ext (letter_in (a ∷ [])) (letter_in (b ∷ [])) else None

-- a letter, alone or with its extension
unfoldable pub access_mode_in : List ℕ → Option AccessMode
access_mode_in (a ∷ []) = option_map without_ext (letter_in (a ∷ []))
access_mode_in (a ∷ stroke ∷ b ∷ []) = extended a stroke b
access_mode_in _ = None

-- the same, or that the word is none
unfoldable pub access_mode : ℕ → List ℕ → Result AccessMode Refusal
access_mode place text = or_refused (access_mode_in text) (BadMode place)

-- ---- devices

-- a hexadecimal digit; words are in upper case
unfoldable pub hexadecimal_of : ℕ → Option ℕ
hexadecimal_of c =
    if is_between 0xF0 0xF9 c then Some (c - 0xF0)
    else (if is_between 0xC1 0xC6 c then Some (10 + (c - 0xC1))
    else None)

-- the number of three hexadecimal digits
abbrev pub three_digits : Option ℕ → Option ℕ → Option ℕ → Option ℕ
three_digits None middle low = None
three_digits (Some high) None low = None
three_digits (Some high) (Some middle) None = None
three_digits (Some high) (Some middle) (Some low) = Some ((high * 16 + middle) * 16 + low)

-- exactly three
unfoldable pub device_of : List ℕ → Option ℕ
device_of (a ∷ b ∷ c ∷ []) = three_digits (hexadecimal_of a) (hexadecimal_of b) (hexadecimal_of c)
device_of _ = None

-- the device that a word is, or a bad operand
unfoldable pub device : ℕ → List ℕ → Result ℕ Refusal
device place text = or_refused (device_of text) (BadOperand place)

-- three characters are a device, and one is a letter
abbrev pub target_of : ℕ → List ℕ → ℕ → Result Target Refusal
target_of place text size =
    if size == 3 then or_refused (option_map (λ vdev. target.Device vdev) (device_of text)) (BadOperand place)
    else (if size == 1 then or_refused (option_map (λ n. target.Letter n) (letter_in text)) (BadMode place)
    else Err (BadOperand place))

-- the device or the letter that a word is, by its length
unfoldable pub device_or_letter : ℕ → List ℕ → Result Target Refusal
device_or_letter place text = target_of place text (length text)

-- ---- numbers

-- the number that 1 to 9 decimal digits write
abbrev pub number_in : List ℕ → Option ℕ
number_in text = magnitude_of 9 text

-- the largest of them
abbrev pub largest : ℕ
largest = 999999999

-- such a number, from one to another, both included
unfoldable pub number_within : ℕ → ℕ → List ℕ → Option ℕ
number_within from to text = option_and_then (λ n. if is_between from to n then Some n else None) (number_in text)

-- the number that a word is, within a range, or a bad operand
unfoldable pub number : ℕ → ℕ → ℕ → List ℕ → Result ℕ Refusal
number from to place text = or_refused (number_within from to text) (BadOperand place)

-- a number, or * for none
unfoldable pub number_or_all : ℕ → ℕ → ℕ → List ℕ → Result (Option ℕ) Refusal
number_or_all from to place text =
    if bytes_eq text (0x5C ∷ []) then Ok None
    else or_refused (option_map (λ n. Some n) (number_within from to text)) (BadOperand place)

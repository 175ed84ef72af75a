-- PUNCH fn ft [fm] [(HEADER or NOHEADER], READCARD fn ft [fm], DISK DUMP fn ft [fm] and DISK LOAD [mode]
use Rattle.std.specs.Prelude.{ℕ, Bool, true, false, if◌then◌else◌, List, [], ◌∷◌, codes, fold, Result, Ok, Err}
use Rattle.cms_fields.specs.Steps.{◌>>=◌, ◌>>◌}
use Rattle.cms_text.specs.Texts.{is_keyword}
use Rattle.cms_line.specs.declared.token.Token.{Token}
use Rattle.cms_operands.specs.Choices.{chosen_of, flag, without_options}
use Rattle.cms_operands.specs.Operands.{ended, needed, operands_of}
use Rattle.cms_operands.specs.Optional.{writing_mode_or_a}
use Rattle.cms_operands.specs.declared.options.ChosenOption.{ChosenOption}
use Rattle.cms_operands.specs.declared.options.OptionForm.{OptionForm}
use Rattle.cms_operands.specs.declared.refusal.Refusal.{Refusal}
use Rattle.cms_operands.specs.declared.refusal.Refusal.TheVariants.{BadOperand}
use Rattle.cms_files.specs.Identifiers.{file_input, full_name}
use Rattle.cms_files.specs.declared.identifier.FileInput.{FileInput}
use Rattle.cms_cards.specs.declared.line.DiskLine.{DiskLine}
use Rattle.cms_cards.specs.declared.line.DiskLine.TheVariants as line
use Rattle.cms_cards.specs.declared.line.DiskVerb.{DiskVerb}
use Rattle.cms_cards.specs.declared.line.DiskVerb.TheVariants as verb
use Rattle.cms_cards.specs.declared.line.PunchLine.{PunchLine}
use Rattle.cms_cards.specs.declared.line.PunchOption.{PunchOption}
use Rattle.cms_cards.specs.declared.line.PunchOption.TheVariants as option
use Rattle.cms_cards.specs.declared.line.ReadTarget.{ReadTarget}

-- ---- PUNCH

-- the file that is punched
unfoldable pub punch_operands : List Token → Result FileInput Refusal
punch_operands operands = do
  input ← file_input operands 1
  ended operands 4
  Ok input

-- HEADER and NOHEADER
abbrev pub options : List (OptionForm PunchOption)
options = flag option.Header (codes "HEADER  ") 1 ∷ flag option.NoHeader (codes "NOHEADER") 3 ∷ []

-- whether there is a header, by an option
abbrev pub header_by : PunchOption → Bool
header_by option.Header = true
header_by option.NoHeader = false

-- whether there is a header, by one option more
abbrev pub header_with : Bool → ChosenOption PunchOption → Bool
header_with header chosen = header_by chosen.option

-- a header, unless the last option is NOHEADER
abbrev pub header_of : List (ChosenOption PunchOption) → Bool
header_of chosen = fold header_with true chosen

-- what PUNCH's line says
abbrev pub punch_line : List Token → Result PunchLine Refusal
punch_line words = do
  input ← punch_operands (operands_of words)
  chosen ← chosen_of options words
  Ok (record { input = input; header = header_of chosen })

-- ---- READCARD

-- the file that is written
unfoldable pub read_operands : List Token → Result ReadTarget Refusal
read_operands operands = do
  name ← full_name operands 1
  mode ← writing_mode_or_a operands 3
  ended operands 4
  Ok (record { name = name; mode = mode })

-- what READCARD's line says; there are no options
abbrev pub read_line : List Token → Result ReadTarget Refusal
read_line words = without_options words (read_operands (operands_of words))

-- ---- DISK

-- DUMP or LOAD, in full; another word is a bad operand
abbrev pub verb_of : ℕ → List ℕ → Result DiskVerb Refusal
verb_of place text =
    if is_keyword (codes "DUMP") text then Ok verb.Dump
    else (if is_keyword (codes "LOAD") text then Ok verb.Load
    else Err (BadOperand place))

-- the file that is dumped
unfoldable pub dump_operands : List Token → Result DiskLine Refusal
dump_operands operands = do
  input ← file_input operands 2
  ended operands 5
  Ok (line.Dump input)

-- the disk that is loaded onto
unfoldable pub load_operands : List Token → Result DiskLine Refusal
load_operands operands = do
  mode ← writing_mode_or_a operands 2
  ended operands 3
  Ok (line.Load mode)

-- what the operands behind the verb say
abbrev pub operands_in : List Token → DiskVerb → Result DiskLine Refusal
operands_in operands verb.Dump = dump_operands operands
operands_in operands verb.Load = load_operands operands

-- the verb, and what follows it
unfoldable pub disk_operands : List Token → Result DiskLine Refusal
disk_operands operands = do
  word ← needed operands 1
  way ← verb_of 1 word
  operands_in operands way

-- what DISK's line says; there are no options
abbrev pub disk_line : List Token → Result DiskLine Refusal
disk_line words = without_options words (disk_operands (operands_of words))

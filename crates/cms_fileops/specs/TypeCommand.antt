-- TYPE fn ft [fm [first [last]]] [(HEX] [COL a-b]
use Rattle.std.specs.Prelude.{⊤, ℕ, ◌-◌, ◌/◌, ◌%◌, ◌==◌, nat_lt, true, false, if◌then◌else◌, List, [], ◌∷◌, codes, drop, fold, length, map, min, take, Option, Some, None, Result, Ok}
use Rattle.std.specs.List.{flat_map}
use Rattle.std.specs.Option.{option_map_or}
use Rattle.cms_fields.specs.Steps.{◌>>=◌, ◌>>◌}
use Rattle.cms_model.specs.Acts.{Act, Done, saying, typed_line}
use Rattle.cms_line.specs.declared.token.Token.{Token}
use Rattle.cms_operands.specs.Choices.{chosen_of, flag, form}
use Rattle.cms_operands.specs.Operands.{ended, largest, operands_of}
use Rattle.cms_operands.specs.Optional.{given_number_or_all, number_or}
use Rattle.cms_operands.specs.declared.options.ChosenOption.{ChosenOption}
use Rattle.cms_operands.specs.declared.options.OptionForm.{OptionForm}
use Rattle.cms_operands.specs.declared.options.Parameter.TheVariants as takes
use Rattle.cms_operands.specs.declared.options.Setting.{Setting}
use Rattle.cms_operands.specs.declared.options.Setting.TheVariants as says
use Rattle.cms_operands.specs.declared.refusal.Refusal.{Refusal}
use Rattle.cms_operands.specs.declared.refusal.Refusal.TheVariants.{BadOperand}
use Rattle.cms_search.specs.DeviceSteps.{reading}
use Rattle.cms_search.specs.Machine.{Machine, Course, letter_at, typing}
use Rattle.cms_search.specs.Refusals.{device_fault, on_line}
use Rattle.cms_search.specs.Texts.{hexadecimal_digit}
use Rattle.cms_search.specs.Units.{vdev_of}
use Rattle.cms_files.specs.Files.{UnitFile, file_found, file_on, on_found, word_refused}
use Rattle.cms_files.specs.Identifiers.{file_input}
use Rattle.cms_files.specs.ModeThree.{last_consuming}
use Rattle.cms_files.specs.Updates.{went}
use Rattle.cms_fileops.specs.declared.type_command.ColumnRange.{ColumnRange}
use Rattle.cms_fileops.specs.declared.type_command.TypeLine.{TypeLine}
use Rattle.cms_fileops.specs.declared.type_command.TypeOption.{TypeOption}
use Rattle.cms_fileops.specs.declared.type_command.TypeOption.TheVariants as option
use Rattle.cms_fileops.specs.declared.type_command.TypeRange.{TypeRange}
use Rattle.cms_fileops.specs.declared.type_command.TypeStyle.{TypeStyle}

-- ---- the line

-- the file, and its first and its last record that are typed; with * all to the end
unfoldable pub type_operands : List Token → Result TypeRange Refusal
type_operands operands = do
  input ← file_input operands 1
  first ← number_or 1 largest operands 4 1
  last ← given_number_or_all first largest operands 5
  ended operands 6
  Ok (record { input = input; first = first; last = last })

-- HEX, and COL with two columns
abbrev pub options : List (OptionForm TypeOption)
options = flag option.Hex (codes "HEX     ") 3 ∷ form option.Col (codes "COL     ") 3 takes.Columns ∷ []

-- the columns that a parameter says
abbrev pub columns_in : Setting → Option ColumnRange
columns_in (says.Columns first last) = Some (record { first = first; last = last })
columns_in _ = None

-- records as they are, and whole
abbrev pub plain : TypeStyle
plain = record { hexadecimal = false; columns = None }

-- how records are typed, by one option more with its parameter: in digits; some columns
abbrev pub style_by : TypeStyle → TypeOption → Setting → TypeStyle
style_by style option.Hex says = record style { hexadecimal = true }
style_by style option.Col says = record style { columns = columns_in says }

-- the same, by an option that was chosen
abbrev pub style_with : TypeStyle → ChosenOption TypeOption → TypeStyle
style_with style chosen = style_by style chosen.option chosen.setting

-- how the options say that records are typed
abbrev pub style_of : List (ChosenOption TypeOption) → TypeStyle
style_of chosen = fold style_with plain chosen

-- what TYPE's line says, or the first refusal
abbrev pub type_line : List Token → Result TypeLine Refusal
type_line words = do
  range ← type_operands (operands_of words)
  chosen ← chosen_of options words
  Ok (record { range = range; style = style_of chosen })

-- ---- what is typed of a record

-- the bytes of some columns, which a record may have in part or not at all
abbrev pub columns_of : Option ColumnRange → List ℕ → List ℕ
columns_of None text = text
columns_of (Some c) text = drop (c.first - 1) (take c.last text)

-- two upper-case hexadecimal digits a byte
abbrev pub in_digits : List ℕ → List ℕ
in_digits text = flat_map (λ b. hexadecimal_digit (b / 16) ∷ hexadecimal_digit (b % 16) ∷ []) text

-- what is typed of a record: its columns, as they are or in digits
abbrev pub record_text : TypeStyle → List ℕ → List ℕ
record_text style text = if style.hexadecimal then in_digits (columns_of style.columns text) else columns_of style.columns text

-- the nth record from 1 is typed, where it isn't one in front of the first that is typed
abbrev pub typed_nth : TypeLine → ℕ → List ℕ → Act ⊤
typed_nth line n text = if nat_lt n line.range.first then Done tt else saying (typed_line (record_text line.style text))

-- ---- the command

-- of so many records these are read: to the last that is typed, at most to the end
abbrev pub wanted_of : TypeRange → ℕ → ℕ
wanted_of range count = option_map_or (λ last. min last count) range.last count

-- the records in front of the first aren't typed
abbrev pub typing_from : TypeLine → List (List ℕ) → Act Course → Act Course
typing_from line records next = typing (map (record_text line.style) (drop (line.range.first - 1) records)) next

-- behind the last that is typed, of so many: where it was the file's last the file may be erased
abbrev pub type_ended : Machine → TypeLine → ℕ → ℕ → Act Course
type_ended s line n count =
    if wanted_of line.range count == count then last_consuming s n line.range.input.name else went s

-- the records of a file are typed as they are read; a fault of the device ends it
abbrev pub type_records : Machine → TypeLine → ℕ → UnitFile → Act Course
type_records s line n x =
    reading (typing_from line) x.unit x.file (wanted_of line.range (length x.file.records))
    (type_ended s line n (length x.file.records)) (device_fault s (vdev_of s x.unit))

-- a first record that isn't there is refused as an operand: 070
abbrev pub type_found : Machine → List Token → TypeLine → ℕ → UnitFile → Act Course
type_found s words line n x =
    if nat_lt (length x.file.records) line.range.first then word_refused s words (BadOperand 4) else type_records s line n x

-- the file of the line's name on the disk of letter n
abbrev pub type_on : Machine → List Token → TypeLine → ℕ → Act Course
type_on s words line n = on_found s words 1 (type_found s words line n) (file_on s line.range.input.name (letter_at s n))

-- the records of the file that the line names are typed, or 069 or 002
abbrev pub type_file : Machine → List Token → TypeLine → Act Course
type_file s words line = on_found s words 1 (λ found. type_on s words line found.letter) (file_found s line.range.input)

-- the records of a file are typed, each as it is handed out; one of mode number 3 is erased behind its last: 069, 002, 070, 105, 107
abbrev pub type_command : Machine → List Token → Act Course
type_command s words = on_line s words (type_file s words) (type_line words)

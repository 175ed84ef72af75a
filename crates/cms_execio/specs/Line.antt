-- EXECIO n DISKR fn ft [fm [line]] and EXECIO n DISKW fn ft [fm], with [(FIFO or LIFO] [STRIP] [FINIS] [STRING text]
use Rattle.std.specs.Prelude.{ℕ, ◌+◌, true, false, if◌then◌else◌, List, [], ◌∷◌, codes, drop, fold, position, slice_get, take, Option, Some, None, Result, Ok, Err}
use Rattle.std.specs.Option.{option_and_then, option_map}
use Rattle.cms_fields.specs.Steps.{◌>>=◌, ◌>>◌}
use Rattle.cms_text.specs.Texts.{is_keyword, without_one_blank}
use Rattle.cms_line.specs.Options.{first_left}
use Rattle.cms_line.specs.declared.token.Token.{Token}
use Rattle.cms_operands.specs.Choices.{chosen_of, flag}
use Rattle.cms_operands.specs.Operands.{ended, given, largest, needed, number, number_or_all, operands_of, or_refused}
use Rattle.cms_operands.specs.Optional.{writing_mode_or_a}
use Rattle.cms_operands.specs.declared.options.ChosenOption.{ChosenOption}
use Rattle.cms_operands.specs.declared.options.OptionForm.{OptionForm}
use Rattle.cms_operands.specs.declared.refusal.Refusal.{Refusal}
use Rattle.cms_operands.specs.declared.refusal.Refusal.TheVariants.{BadOperand}
use Rattle.cms_files.specs.Identifiers.{file_input, full_name}
use Rattle.cms_files.specs.declared.stack.StackEnd.TheVariants.{Front, Back}
use Rattle.cms_execio.specs.declared.line.Direction.{Direction}
use Rattle.cms_execio.specs.declared.line.Direction.TheVariants as goes
use Rattle.cms_execio.specs.declared.line.ExecioLine.{ExecioLine}
use Rattle.cms_execio.specs.declared.line.ExecioLine.TheVariants as line
use Rattle.cms_execio.specs.declared.line.ReadRange.{ReadRange}
use Rattle.cms_execio.specs.declared.line.StackStyle.{StackStyle}
use Rattle.cms_execio.specs.declared.line.Transfer.{Transfer}
use Rattle.cms_execio.specs.declared.line.Transfer.TheVariants as moves
use Rattle.cms_execio.specs.declared.line.WriteTarget.{WriteTarget}
use Rattle.cms_execio.specs.declared.options.ExecioOption.{ExecioOption}
use Rattle.cms_execio.specs.declared.options.ExecioOption.TheVariants as option

-- ---- operands

-- the most records or lines that a number asks for
abbrev pub most_wanted : ℕ
most_wanted = 10000

-- DISKR or DISKW; another word is a bad operand
abbrev pub direction_of : ℕ → List ℕ → Result Direction Refusal
direction_of place text =
    if is_keyword (codes "DISKR") text then Ok goes.Read
    else (if is_keyword (codes "DISKW") text then Ok goes.Write
    else Err (BadOperand place))

-- the record at which reading starts, where the line says it
abbrev pub number_at : ℕ → Option (List ℕ) → Result (Option ℕ) Refusal
number_at place None = Ok None
number_at place (Some text) = number 1 largest place text >>= λ n. Ok (Some n)

-- the file of DISKR, and the line from which on it reads
unfoldable pub read_operands : List Token → Option ℕ → Result ReadRange Refusal
read_operands operands count = do
  input ← file_input operands 3
  first ← number_at 6 (given operands 6)
  ended operands 7
  Ok (record { input = input; count = count; first = first })

-- lines that are written are counted: * is no number of them
unfoldable pub write_operands : List Token → Option ℕ → Result WriteTarget Refusal
write_operands operands count = do
  n ← or_refused count (BadOperand 1)
  name ← full_name operands 3
  mode ← writing_mode_or_a operands 5
  ended operands 6
  Ok (record { name = name; mode = mode; count = n })

-- what the operands behind the direction say
abbrev pub operands_in : List Token → Option ℕ → Direction → Result Transfer Refusal
operands_in operands count goes.Read = read_operands operands count >>= λ range. Ok (moves.Read range)
operands_in operands count goes.Write = write_operands operands count >>= λ target. Ok (moves.Write target)

-- how many, and whether they are read or written; what follows is that direction's
unfoldable pub execio_operands : List Token → Result Transfer Refusal
execio_operands operands = do
  count_word ← needed operands 1
  count ← number_or_all 0 most_wanted 1 count_word
  direction_word ← needed operands 2
  way ← direction_of 2 direction_word
  operands_in operands count way

-- ---- options

-- in full spelling
abbrev pub options : List (OptionForm ExecioOption)
options =
    flag option.Fifo (codes "FIFO    ") 4 ∷ flag option.Lifo (codes "LIFO    ") 4
    ∷ flag option.Strip (codes "STRIP   ") 5 ∷ flag option.Finis (codes "FINIS   ") 5
    ∷ flag option.Text (codes "STRING  ") 6 ∷ []

-- the place of the first word STRING behind the first left parenthesis
abbrev pub string_behind : List Token → ℕ → Option ℕ
string_behind words left = option_map (λ k. left + 1 + k) (position (λ word. is_keyword (codes "STRING") word.text) (drop (left + 1) words))

-- the place of STRING among the options
unfoldable pub string_place : List Token → Option ℕ
string_place words = option_and_then (string_behind words) (first_left words)

-- STRING is the last option: what stands behind it is its text and no further one
abbrev pub up_to : List Token → Option ℕ → List Token
up_to words None = words
up_to words (Some place) = take (place + 1) words

-- the words up to STRING, with it
abbrev pub before_text : List Token → List Token
before_text words = up_to words (string_place words)

-- what a line has behind a word and one blank, as it stands there
abbrev pub text_behind : List ℕ → Token → List ℕ
text_behind line word = without_one_blank (drop word.end line)

-- the word STRING among the options
abbrev pub string_word : List Token → Option Token
string_word words = option_and_then (slice_get words) (string_place words)

-- the text behind STRING, as the line has it
unfoldable pub text_in : List ℕ → List Token → Option (List ℕ)
text_in line words = option_map (text_behind line) (string_word words)

-- lines go to the end of the stack as they are, and reading goes on behind them
abbrev pub plain : StackStyle
plain = record { end = Back; strips = false; forgets = false }

-- how records are stacked, by one option more
abbrev pub style_by : StackStyle → ExecioOption → StackStyle
style_by style option.Fifo = record style { end = Back }
style_by style option.Lifo = record style { end = Front }
style_by style option.Strip = record style { strips = true }
style_by style option.Finis = record style { forgets = true }
style_by style option.Text = style

-- the same, by an option that was chosen
abbrev pub style_with : StackStyle → ChosenOption ExecioOption → StackStyle
style_with style chosen = style_by style chosen.option

-- how the options say that records are stacked
abbrev pub style_of : List (ChosenOption ExecioOption) → StackStyle
style_of chosen = fold style_with plain chosen

-- ---- the line

-- an option that the direction doesn't use has no effect
abbrev pub line_of : Transfer → List (ChosenOption ExecioOption) → Option (List ℕ) → ExecioLine
line_of (moves.Read range) chosen text = line.Read (record { range = range; style = style_of chosen })
line_of (moves.Write target) chosen text = line.Write target text

-- the bytes of the line, and its words
abbrev pub execio_line : List ℕ → List Token → Result ExecioLine Refusal
execio_line bytes words = do
  transfer ← execio_operands (operands_of words)
  chosen ← chosen_of options (before_text words)
  Ok (line_of transfer chosen (text_in bytes words))

-- COPYFILE fn ft fm [fn ft fm] [(options]
use Rattle.std.specs.Prelude.{ℕ, ◌≤◌, true, false, List, [], ◌∷◌, codes, fold, Option, None, Some, IfSome, Result, Ok}
use Rattle.std.specs.Option.{option_map_or, unwrap_or}
use Rattle.cms_names.specs.declared.name.Format.{Format}
use Rattle.cms_fields.specs.Steps.{◌>>=◌, ◌>>◌}
use Rattle.cms_fields.specs.Limits.{longest_record}
use Rattle.cms_line.specs.declared.token.Token.{Token}
use Rattle.cms_operands.specs.Choices.{chosen_of, flag, form}
use Rattle.cms_operands.specs.Operands.{ended, given, largest, needed, operands_of, output_mode, reading_mode}
use Rattle.cms_operands.specs.declared.options.ChosenOption.{ChosenOption}
use Rattle.cms_operands.specs.declared.options.OptionForm.{OptionForm}
use Rattle.cms_operands.specs.declared.options.Parameter.TheVariants as takes
use Rattle.cms_operands.specs.declared.options.Setting.{Setting}
use Rattle.cms_operands.specs.declared.options.Setting.TheVariants as says
use Rattle.cms_operands.specs.declared.operand.WriteMode.{WriteMode}
use Rattle.cms_operands.specs.declared.refusal.Refusal.{Refusal}
use Rattle.cms_files.specs.Identifiers.{name_choice, output_name}
use Rattle.cms_copyfile.specs.declared.line.CopyFiles.{CopyFiles}
use Rattle.cms_copyfile.specs.declared.line.CopyLine.{CopyLine}
use Rattle.cms_copyfile.specs.declared.line.CopyOption.{CopyOption}
use Rattle.cms_copyfile.specs.declared.line.CopyOption.TheVariants as option
use Rattle.cms_copyfile.specs.declared.line.CopyOutput.{CopyOutput}
use Rattle.cms_copyfile.specs.declared.line.CopyStyle.{CopyStyle}
use Rattle.cms_copyfile.specs.declared.line.Existing.{Existing}
use Rattle.cms_copyfile.specs.declared.line.Existing.TheVariants.{Extended, Refused, Replaced}
use Rattle.cms_copyfile.specs.declared.record.Fold.TheVariants.{Lower, Upper}

-- ---- the operands

-- without an output each file is its own, and is replaced
abbrev pub same_output : CopyOutput
same_output = record { name = record { file = None; kind = None }; mode = None; existing = Replaced }

-- the output that the operands from the fourth on name; a file that is there is refused
unfoldable pub given_output : List Token → Result CopyOutput Refusal
given_output operands = do
  name ← output_name operands 4
  word ← needed operands 6
  mode ← output_mode 6 word
  Ok (record { name = name; mode = mode; existing = Refused })

-- the output that is given, else the input itself
abbrev pub output_of : List Token → Result CopyOutput Refusal
output_of operands = option_map_or (λ word. given_output operands) (given operands 4) (Ok same_output)

-- the files that are copied, and what they become
unfoldable pub copy_operands : List Token → Result CopyFiles Refusal
copy_operands operands = do
  names ← name_choice operands 1
  word ← needed operands 3
  mode ← reading_mode 3 word
  output ← output_of operands
  ended operands 7
  Ok (record { names = names; mode = mode; output = output })

-- ---- the options

-- COPYFILE's options with their parameters
abbrev pub options : List (OptionForm CopyOption)
options =
    flag option.NewFile (codes "NEWFILE ") 4 ∷ flag option.Replace (codes "REPLACE ") 3
    ∷ flag option.Append (codes "APPEND  ") 2
    ∷ form option.From (codes "FROM    ") 2 (takes.Number 1 largest)
    ∷ form option.For (codes "FOR     ") 3 (takes.Number 1 largest)
    ∷ flag option.Upcase (codes "UPCASE  ") 2 ∷ flag option.Lowcase (codes "LOWCASE ") 2
    ∷ flag option.Trunc (codes "TRUNC   ") 2 ∷ flag option.NoTrunc (codes "NOTRUNC ") 4
    ∷ form option.Fill (codes "FILL    ") 2 takes.Fill ∷ form option.Recfm (codes "RECFM   ") 3 takes.Format
    ∷ form option.Lrecl (codes "LRECL   ") 2 (takes.Number 1 longest_record)
    ∷ flag option.OldDate (codes "OLDDATE ") 4 ∷ flag option.NewDate (codes "NEWDATE ") 4
    ∷ flag option.TypeFiles (codes "TYPE    ") 2 ∷ flag option.NoType (codes "NOTYPE  ") 3 ∷ []

-- the number that a parameter says
abbrev pub number_in : Setting → Option ℕ
number_in (says.Number n) = Some n
number_in _ = None

-- the byte that a parameter says
abbrev pub byte_in : Setting → Option ℕ
byte_in (says.Byte c) = Some c
byte_in _ = None

-- the format that a parameter says
abbrev pub format_in : Setting → Option Format
format_in (says.Format f) = Some f
format_in _ = None

-- all records from the first on are copied as they are
abbrev pub plain : Existing → CopyStyle
plain existing = record {
  existing = existing;
  first = 1;
  most = None;
  fold = None;
  truncates = false;
  fill = 0x40;
  format = None;
  length = None;
  old_stamp = false;
  types = false;
}

-- how files are copied, by one option more with its parameter
abbrev pub style_by : CopyStyle → CopyOption → Setting → CopyStyle
style_by style option.NewFile says = record style { existing = Refused }
style_by style option.Replace says = record style { existing = Replaced }
style_by style option.Append says = record style { existing = Extended }
style_by style option.From says = record style { first = unwrap_or (number_in says) style.first }
style_by style option.For says = record style { most = number_in says }
style_by style option.Upcase says = record style { fold = Some Upper }
style_by style option.Lowcase says = record style { fold = Some Lower }
style_by style option.Trunc says = record style { truncates = true }
style_by style option.NoTrunc says = record style { truncates = false }
style_by style option.Fill says = record style { fill = unwrap_or (byte_in says) style.fill }
style_by style option.Recfm says = record style { format = format_in says }
style_by style option.Lrecl says = record style { length = number_in says }
style_by style option.OldDate says = record style { old_stamp = true }
style_by style option.NewDate says = record style { old_stamp = false }
style_by style option.TypeFiles says = record style { types = true }
style_by style option.NoType says = record style { types = false }

-- the same, by an option that was chosen
abbrev pub style_with : CopyStyle → ChosenOption CopyOption → CopyStyle
style_with style chosen = style_by style chosen.option chosen.setting

-- how the options say that files are copied: of those that speak of the same the last decides
abbrev pub style_of : Existing → List (ChosenOption CopyOption) → CopyStyle
style_of default chosen = fold style_with (plain default) chosen

-- the numbers lie where the options' forms say
pub record IsCopyStyle (style : CopyStyle) : Type 0 where
  pub first : 1 ≤ style.first
  pub most : IfSome style.most (λ n. (1 ≤ n) × (n ≤ largest))
  pub length : IfSome style.length (λ n. (1 ≤ n) × (n ≤ longest_record))

-- ---- the line

-- the mode number of an output's word, where it has one, is one that a file may have
abbrev pub IsOutputMode : Option WriteMode → Type 0
IsOutputMode mode = IfSome mode (λ m. IfSome m.number (λ n. n ≤ 6))

-- the numbers of a line are those that its words may have
pub record IsCopyLine (line : CopyLine) : Type 0 where
  pub style : IsCopyStyle line.style
  pub number : IsOutputMode line.files.output.mode

-- what COPYFILE's line says, or the first refusal
abbrev pub copy_line : List Token → Result CopyLine Refusal
copy_line words = do
  files ← copy_operands (operands_of words)
  chosen ← chosen_of options words
  Ok (record { files = files; style = style_of files.output.existing chosen })

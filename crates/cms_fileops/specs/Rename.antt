-- RENAME fn ft fm fn ft fm [(TYPE or NOTYPE] [UPDIRT]
use Rattle.std.specs.Prelude.{◌≡◌, ◌≤◌, ℕ, ◌==◌, ◌&&◌, not, Bool, true, false, if◌then◌else◌, List, [], ◌∷◌, codes, fold, Option, Some, None, IfSome, Result, Ok, Err}
use Rattle.std.specs.Option.{unwrap_or}
use Rattle.std.specs.Str.{bytes_eq}
use Rattle.cms_names.specs.Modes.{equal_signs}
use Rattle.cms_names.specs.declared.name.Name.{Name}
use Rattle.cms_fields.specs.Steps.{◌>>=◌, ◌>>◌}
use Rattle.cms_model.specs.Changes as changes
use Rattle.cms_model.specs.Minidisks.{same_name}
use Rattle.cms_model.specs.Acts.{Act, bind}
use Rattle.cms_line.specs.declared.token.Token.{Token}
use Rattle.cms_operands.specs.Choices.{chosen_of, flag}
use Rattle.cms_operands.specs.Operands.{ended, needed, operands_of, output_mode, writing_mode}
use Rattle.cms_operands.specs.Refusals.{text_at}
use Rattle.cms_operands.specs.declared.options.ChosenOption.{ChosenOption}
use Rattle.cms_operands.specs.declared.options.OptionForm.{OptionForm}
use Rattle.cms_operands.specs.declared.operand.WriteMode.{WriteMode}
use Rattle.cms_operands.specs.declared.refusal.Refusal.{Refusal}
use Rattle.cms_operands.specs.declared.refusal.Refusal.TheVariants.{BadMode}
use Rattle.cms_search.specs.DeviceSteps.{Stepped}
use Rattle.cms_search.specs.Machine.{Machine, Course}
use Rattle.cms_search.specs.Refusals.{on_line}
use Rattle.cms_search.specs.Searches.{Listed, Shelf, item_at, shelves_in}
use Rattle.cms_search.specs.Tables.{AccessTable, shelves_of}
use Rattle.cms_search.specs.Texts.{letter_text}
use Rattle.cms_files.specs.Files.{file_exists, file_text, has_name, shelf_with}
use Rattle.cms_files.specs.Identifiers.{name_choice, output_name}
use Rattle.cms_files.specs.Updates.{on_step, stopping, telling, updating, updating_taken}
use Rattle.cms_fileops.specs.declared.rename.RenameFiles.{RenameFiles}
use Rattle.cms_fileops.specs.declared.rename.RenameLine.{RenameLine}
use Rattle.cms_fileops.specs.declared.rename.RenameOption.{RenameOption}
use Rattle.cms_fileops.specs.declared.rename.RenameOption.TheVariants as option
use Rattle.cms_fileops.specs.declared.rename.Renaming.{Renaming}

-- ---- the line

-- the output's letter is = or the input's; the number that it gives
abbrev pub number_for : ℕ → Option WriteMode → Result (Option ℕ) Refusal
number_for n None = Ok None
number_for n (Some mode) = if mode.letter == n then Ok mode.number else Err (BadMode 6)

-- the files that are renamed, the name they get, and the number
unfoldable pub rename_operands : List Token → Result RenameFiles Refusal
rename_operands operands = do
  names ← name_choice operands 1
  mode_word ← needed operands 3
  mode ← writing_mode 3 mode_word
  output ← output_name operands 4
  out_word ← needed operands 6
  out ← output_mode 6 out_word
  number ← number_for mode.letter out
  ended operands 7
  Ok (record { names = names; mode = mode; output = output; number = number })

-- TYPE, NOTYPE and UPDIRT
abbrev pub options : List (OptionForm RenameOption)
options =
    flag option.TypeFiles (codes "TYPE    ") 2 ∷ flag option.NoType (codes "NOTYPE  ") 3
    ∷ flag option.Updirt (codes "UPDIRT  ") 2 ∷ []

-- whether files are typed, by one option more; UPDIRT has no effect
abbrev pub types_by : Bool → RenameOption → Bool
types_by types option.TypeFiles = true
types_by types option.NoType = false
types_by types option.Updirt = types

-- the same, by an option that was chosen
abbrev pub types_with : Bool → ChosenOption RenameOption → Bool
types_with types chosen = types_by types chosen.option

-- whether files are typed: the last of TYPE and NOTYPE says so
abbrev pub types_of : List (ChosenOption RenameOption) → Bool
types_of chosen = fold types_with false chosen

-- what RENAME's line says, or the first refusal
abbrev pub rename_line : List Token → Result RenameLine Refusal
rename_line words = do
  files ← rename_operands (operands_of words)
  chosen ← chosen_of options words
  Ok (record { files = files; types = types_of chosen })

-- ---- the command

-- the new name is that of another file
abbrev pub is_others : Name → Name → List Listed → Bool
is_others from to files = not (same_name from to) && has_name to files

-- the output's mode as the line has it; = is shown as the letter
abbrev pub mode_shown : ℕ → List ℕ → List ℕ
mode_shown n word = if bytes_eq word (0x7E ∷ []) then letter_text n else word

-- without a digit the number stays
abbrev pub renaming_of : RenameFiles → Listed → Renaming
renaming_of files f = record { name = equal_signs f.name files.output; number = unwrap_or files.number f.number }

-- it is, as the output has it
abbrev pub others_name : Machine → List Token → ℕ → Name → Act Stepped
others_name s words n to = stopping (file_exists s to (mode_shown n (text_at words 6)))

-- the file gets its new name and number, where that name is no other file's
abbrev pub rename_in : Machine → List Token → ℕ → Name → Renaming → Shelf → Act Stepped
rename_in s words n from to shelf =
    if is_others from to.name shelf.files then others_name s words n to.name
    else updating s n (changes.Rename from to.name to.number)

-- one file is renamed: 069, 037, 002, 024, 107, 105
abbrev pub rename_file : Machine → List Token → ℕ → Name → Renaming → Act Stepped
rename_file s words n from to = on_step s words 1 (rename_in s words n from to) (shelf_with (shelves_in s) n from)

-- with TYPE its new name is typed then
abbrev pub rename_told : List Token → ℕ → Bool → Machine → Name → Renaming → Act Stepped
rename_told words n types s from to = bind (rename_file s words n from to) (telling types (file_text n to.name to.number))

-- a file that was taken at the start is renamed, and typed where that is asked
abbrev pub rename_listed : List Token → RenameLine → Machine → Listed → Act Stepped
rename_listed words line s f = rename_told words line.files.mode.letter line.types s f.name (renaming_of line.files f)

-- the files that the line means are renamed one after another, until one is refused
abbrev pub rename_files : Machine → List Token → RenameLine → Act Course
rename_files s words line =
    updating_taken s words line.files.names line.files.mode (rename_listed words line)

-- files of a disk get other names or numbers, in the order in which they stood, by one update each: 069, 037, 002
abbrev pub rename : Machine → List Token → Act Course
rename s words = on_line s words (rename_files s words) (rename_line words)

-- ---- what the calls keep to

-- a number that is given is a mode number
abbrev pub HasMode : Option ℕ → Type 0
HasMode number = IfSome number (λ k. k ≤ 6)

-- whether the new name is another file's, of the disk of a letter
abbrev pub AreOthers : AccessTable → ℕ → Name → Name → Bool → Type 0
AreOthers t n from to others = IfSome (item_at (shelves_of t) n) (λ shelf. others ≡ is_others from to shelf.files)

-- ERASE fn ft [fm] [(TYPE or NOTYPE]
use Rattle.std.specs.Prelude.{ℕ, Bool, true, false, List, [], ◌∷◌, codes, fold, Result, Ok}
use Rattle.cms_names.specs.declared.name.Name.{Name}
use Rattle.cms_fields.specs.Steps.{◌>>=◌, ◌>>◌}
use Rattle.cms_model.specs.Changes.{Drop}
use Rattle.cms_model.specs.Acts.{Act, bind}
use Rattle.cms_line.specs.declared.token.Token.{Token}
use Rattle.cms_operands.specs.Choices.{chosen_of, flag}
use Rattle.cms_operands.specs.Operands.{ended, operands_of}
use Rattle.cms_operands.specs.Optional.{writing_mode_or_a}
use Rattle.cms_operands.specs.declared.options.ChosenOption.{ChosenOption}
use Rattle.cms_operands.specs.declared.options.OptionForm.{OptionForm}
use Rattle.cms_operands.specs.declared.refusal.Refusal.{Refusal}
use Rattle.cms_search.specs.DeviceSteps.{Stepped}
use Rattle.cms_search.specs.Machine.{Machine, Course}
use Rattle.cms_search.specs.Refusals.{on_line}
use Rattle.cms_search.specs.Searches.{Listed, shelves_in}
use Rattle.cms_files.specs.Files.{file_text, shelf_with}
use Rattle.cms_files.specs.Identifiers.{name_choice}
use Rattle.cms_files.specs.Updates.{on_step, telling, updating, updating_taken}
use Rattle.cms_fileops.specs.declared.erase.EraseFiles.{EraseFiles}
use Rattle.cms_fileops.specs.declared.erase.EraseLine.{EraseLine}
use Rattle.cms_fileops.specs.declared.erase.EraseOption.{EraseOption}
use Rattle.cms_fileops.specs.declared.erase.EraseOption.TheVariants as option

-- ---- the line

-- the files that ERASE's operands mean: names and a disk
unfoldable pub erase_operands : List Token → Result EraseFiles Refusal
erase_operands operands = do
  names ← name_choice operands 1
  mode ← writing_mode_or_a operands 3
  ended operands 4
  Ok (record { names = names; mode = mode })

-- TYPE and NOTYPE
abbrev pub options : List (OptionForm EraseOption)
options = flag option.TypeFiles (codes "TYPE    ") 2 ∷ flag option.NoType (codes "NOTYPE  ") 3 ∷ []

-- whether files are typed, by an option
abbrev pub types_by : EraseOption → Bool
types_by option.TypeFiles = true
types_by option.NoType = false

-- whether files are typed, by one option more
abbrev pub types_with : Bool → ChosenOption EraseOption → Bool
types_with types chosen = types_by chosen.option

-- whether files are typed: the last option says so
abbrev pub types_of : List (ChosenOption EraseOption) → Bool
types_of chosen = fold types_with false chosen

-- what ERASE's line says, or the first refusal
abbrev pub erase_line : List Token → Result EraseLine Refusal
erase_line words = do
  files ← erase_operands (operands_of words)
  chosen ← chosen_of options words
  Ok (record { files = files; types = types_of chosen })

-- ---- the command

-- one file is erased: 069, 037, 002, 107, 105
abbrev pub erase_file : Machine → List Token → ℕ → Name → Act Stepped
erase_file s words n name = on_step s words 1 (λ shelf. updating s n (Drop name)) (shelf_with (shelves_in s) n name)

-- with TYPE it is typed once it is erased
abbrev pub erase_told : List Token → ℕ → Bool → Machine → Listed → Act Stepped
erase_told words n types s f = bind (erase_file s words n f.name) (telling types (file_text n f.name f.number))

-- the files that the line means are erased one after another, until one is refused
abbrev pub erase_files : Machine → List Token → EraseLine → Act Course
erase_files s words line =
    updating_taken s words line.files.names line.files.mode (erase_told words line.files.mode.letter line.types)

-- files of a disk are erased, in the order in which they stood, by one update each: 069, 037, 002
abbrev pub erase : Machine → List Token → Act Course
erase s words = on_line s words (erase_files s words) (erase_line words)

-- A file that is copied, as the disks of the table tell it, and as the machine has it.
use Rattle.std.specs.Prelude.{◌≡◌, ◌==◌, ◌&&◌, ℕ, Bool, not, Option, None, Some, IfSome, Ok, ⊤}
use Rattle.std.specs.Option.{option_map}
use Rattle.cms_names.specs.Modes.{equal_signs}
use Rattle.cms_model.specs.Minidisks.{File, same_name}
use Rattle.cms_edf.specs.declared.held.FileInfo.{FileInfo}
use Rattle.cms_disk.specs.Disks.{IsFileInfo}
use Rattle.cms_search.specs.Machine.{Machine}
use Rattle.cms_search.specs.Searches.{found_at}
use Rattle.cms_search.specs.Tables.{AccessTable}
use Rattle.cms_search.specs.declared.search.Found.{Found}
use Rattle.cms_files.specs.Files.{UnitFile}
use Rattle.cms_files.specs.Told.{IsInfo, info_named, place_named}
use Rattle.cms_copyfile.specs.Copyfile.{Copying, copying_of, file_at, letter_for, reads_to_end}
use Rattle.cms_copyfile.specs.Outputs.{extended, form_for, number_for, plan_of}
use Rattle.cms_copyfile.specs.declared.line.CopyLine.{CopyLine}
use Rattle.cms_copyfile.specs.declared.copy.FileCopy.{FileCopy}
use Rattle.cms_copyfile.specs.declared.output.CopyPlan.{CopyPlan}
use Rattle.cms_copyfile.specs.declared.output.FileForm.{FileForm}

-- ---- on the table

-- it is a file of the table's, with what is told of it and of the file that has the output's name, as a file may have it
pub record IsFileCopy (t : AccessTable) (line : CopyLine) (c : FileCopy) : Type 0 where
  pub place : Some c.place ≡ place_named t c.found.letter c.found.name
  pub input : Some c.input ≡ info_named t c.found.letter c.found.name
  pub letter : c.letter ≡ letter_for line.files.output.mode c.found.letter
  pub name : c.name ≡ equal_signs c.found.name line.files.output.name
  pub there_place : c.there_place ≡ place_named t c.letter c.name
  pub there : c.there ≡ info_named t c.letter c.name
  pub sound : IsFileInfo c.input
  pub sound_there : IfSome c.there IsFileInfo

-- where its disk has the file that is copied
abbrev pub input_at : FileCopy → Found
input_at c = found_at c.found.letter c.place

-- the number that the copy gets
abbrev pub copy_number : CopyLine → FileCopy → ℕ
copy_number line c = number_for line.files.output.mode c.input.number (option_map (λ i. i.number) c.there)

-- the format of the records that a file has
abbrev pub form_in : FileInfo → FileForm
form_in info = record { format = info.format; length = info.length }

-- the format that the copy gets
abbrev pub form_into : CopyLine → FileCopy → FileForm
form_into line c = form_for line.style (form_in c.input) (option_map form_in (extended line.style.existing c.there))

-- it is its own output
abbrev pub is_own_output : FileCopy → Bool
is_own_output c = (c.letter == c.found.letter) && same_name c.input.name c.name

-- reading it may erase it
abbrev pub may_erase_input : CopyLine → FileCopy → Bool
may_erase_input line c = reads_to_end line c.input.count && not (is_own_output c)

-- which records are copied into a file of this format
abbrev pub plan_for : CopyLine → FileForm → FileCopy → CopyPlan
plan_for line form c = plan_of line.style form c.input.count

-- ---- on the machine

-- what is told of a file that may be there is so
abbrev pub IsInfoOf : Option FileInfo → Option File → Type 0
IsInfoOf None None = ⊤
IsInfoOf (Some info) (Some f) = IsInfo info f
IsInfoOf None (Some f) = ⊥
IsInfoOf (Some info) None = ⊥

-- the machine finds the file, and copies it there
pub record IsCopying (s : Machine) (line : CopyLine) (c : FileCopy) : Type 0 where
  pub file : UnitFile
  pub found : file_at s c.found ≡ Ok file
  pub input : IsInfo c.input file.file
  pub to : c.letter ≡ (copying_of s line c.found file).to
  pub name : c.name ≡ (copying_of s line c.found file).name
  pub there : IsInfoOf c.there (copying_of s line c.found file).there

-- what it does with it
abbrev pub copied_to : (s : Machine) (line : CopyLine) (c : FileCopy) → IsCopying s line c → Copying
copied_to s line c x = copying_of s line c.found x.file

-- COPYFILE: files are copied, one after another.
use Rattle.std.specs.Prelude.{ℕ, nat_lt, ◌==◌, ◌&&◌, Bool, false, not, true, if◌then◌else◌, List, filter_map, length, slice_get, Option, None, Some, Result, Ok, Err, ⊤}
use Rattle.std.specs.Option.{option_and_then, option_map, option_map_or}
use Rattle.cms_names.specs.Modes.{equal_signs}
use Rattle.cms_names.specs.declared.name.Name.{Name}
use Rattle.cms_fields.specs.Moments.{stamp_of}
use Rattle.cms_fields.specs.Steps.{◌>>=◌, ◌>>◌}
use Rattle.cms_text.specs.Numbers.{decimal_of}
use Rattle.cms_model.specs.Changes.{Change, Add, Put}
use Rattle.cms_model.specs.Minidisks.{File, same_name}
use Rattle.cms_model.specs.Acts.{Act, Done, bind}
use Rattle.cms_line.specs.declared.message.Message.TheVariants.{M121}
use Rattle.cms_line.specs.declared.token.Token.{Token}
use Rattle.cms_operands.specs.declared.operand.WriteMode.{WriteMode}
use Rattle.cms_search.specs.DeviceSteps.{Did, Failed, Stepped, failing, reading, silently}
use Rattle.cms_search.specs.Machine.{Course, Machine, letter_at, refusal}
use Rattle.cms_search.specs.Refusals.{on_line}
use Rattle.cms_search.specs.Searches.{Listed, Shelves, item_at, search, shelves_in}
use Rattle.cms_search.specs.Units.{vdev_of}
use Rattle.cms_search.specs.declared.fault.SearchFault.{SearchFault}
use Rattle.cms_search.specs.declared.search.Found.{Found}
use Rattle.cms_files.specs.Files.{UnitFile, file_exists, file_on, on_found, some_found, writable}
use Rattle.cms_files.specs.Identifiers.{takes_name}
use Rattle.cms_files.specs.ModeThree.{consuming}
use Rattle.cms_files.specs.Updates.{on_step, stopping, telling, updating, updating_each}
use Rattle.cms_copyfile.specs.Lines.{copy_line}
use Rattle.cms_copyfile.specs.Outputs.{copied_records, extended, file_with, form_for, form_of, number_for, stamp_for, wanted_of}
use Rattle.cms_copyfile.specs.Shown.{copy_text, mode_shown}
use Rattle.cms_copyfile.specs.declared.named_files.NamedFile.{NamedFile}
use Rattle.cms_copyfile.specs.declared.line.CopyLine.{CopyLine}
use Rattle.cms_copyfile.specs.declared.line.Existing.{Existing}
use Rattle.cms_copyfile.specs.declared.line.Existing.TheVariants.{Extended, Refused, Replaced}
use Rattle.cms_copyfile.specs.declared.shown.FileShown.{FileShown}

-- ---- the files that were found

-- the file at the place where a search found it
abbrev pub listed_at : Shelves → Found → Option Listed
listed_at shelves found = option_and_then (λ shelf. slice_get shelf.files found.place) (item_at shelves found.letter)

-- the same by its name, since a file may stand in another place by the time that it is copied
abbrev pub named_at : Shelves → Found → Option NamedFile
named_at shelves found = option_map (λ f. record { letter = found.letter; name = f.name }) (listed_at shelves found)

-- the same of all that were found, in order
abbrev pub files_named : Shelves → List Found → List NamedFile
files_named shelves found = filter_map (named_at shelves) found

-- the file of that name, as it is now
abbrev pub file_at : Machine → NamedFile → Result UnitFile SearchFault
file_at s file = file_on s file.name (letter_at s file.letter)

-- ---- a file that is copied

-- a file of the disk of a letter, and where it is copied to: a letter, a name, and the file of that name, if it is there
pub record Copying : Type 0 where
  pub letter : ℕ
  pub input : UnitFile
  pub to : ℕ
  pub name : Name
  pub there : Option File

-- the file that was looked up, where it is there
abbrev pub there_is : Result UnitFile SearchFault → Option File
there_is (Ok x) = Some x.file
there_is (Err why) = None

-- the output's letter, or that of the disk on which the input stands
abbrev pub letter_for : Option WriteMode → ℕ → ℕ
letter_for mode n = option_map_or (λ m. m.letter) mode n

-- what is copied, as which name onto which letter, and the file that has that name already
abbrev pub copying_of : Machine → CopyLine → NamedFile → UnitFile → Copying
copying_of s line file x =
    let to = letter_for line.files.output.mode file.letter in
    let name = equal_signs file.name line.files.output.name in
    record { letter = file.letter; input = x; to = to; name = name; there = there_is (file_on s name (letter_at s to)) }

-- ---- the update

-- the mode number of the copy
abbrev pub number_of : CopyLine → Copying → ℕ
number_of line c = number_for line.files.output.mode c.input.file.number (option_map (λ f. f.number) c.there)

-- the records are those of a new file, or are added to the one that is extended
abbrev pub change_with : Machine → CopyLine → Copying → Option File → Change
change_with s line c None =
    let form = form_for line.style (form_of c.input.file) None in
    Put (file_with c.name (number_of line c) form (stamp_for line.style c.input.file.stamp (stamp_of s.moment))
    (copied_records line.style form c.input.file.records))
change_with s line c (Some f) =
    Add c.name (copied_records line.style (form_of f) c.input.file.records) (stamp_for line.style c.input.file.stamp (stamp_of s.moment))

-- ---- one file

-- its records are read, and the copy is put
abbrev pub copy_records : Machine → CopyLine → Copying → Act Stepped
copy_records s line c =
    reading silently c.input.unit c.input.file (wanted_of line.style (length c.input.file.records))
    (updating s c.to (change_with s line c (extended line.style.existing c.there))) (failing s (vdev_of s c.input.unit))

-- the code of a first record that isn't there
abbrev pub no_record_code : ℕ
no_record_code = 24

-- the file has only so many records
abbrev pub too_few : Machine → ℕ → Act Course
too_few s count = refusal s (M121 (decimal_of count)) no_record_code

-- the file that is there already isn't to be touched
abbrev pub is_refused : {A : Type 0} → Existing → Option A → Bool
is_refused Refused (Some f) = true
is_refused Refused None = false
is_refused Replaced there = false
is_refused Extended there = false

-- a file has the output's name, and isn't to be touched
abbrev pub there_already : Machine → List Token → CopyLine → ℕ → Name → Act Stepped
there_already s words line n name = stopping (file_exists s name (mode_shown words line.files.output.mode n))

-- 024, 121, 105, 120, 107, 105
abbrev pub copy_into : Machine → List Token → CopyLine → Copying → Act Stepped
copy_into s words line c =
    if is_refused line.style.existing c.there then there_already s words line c.to c.name
    else (if nat_lt (length c.input.file.records) line.style.first then stopping (too_few s (length c.input.file.records))
    else copy_records s line c)

-- the file is its own output
abbrev pub is_own : Copying → Bool
is_own c = (c.to == c.letter) && same_name c.input.file.name c.name

-- a line reads a file of so many records to its end
abbrev pub reads_to_end : CopyLine → ℕ → Bool
reads_to_end line count = wanted_of line.style count == count

-- reading the file may erase it
abbrev pub may_erase : CopyLine → Copying → Bool
may_erase line c = reads_to_end line (length c.input.file.records) && not (is_own c)

-- behind the copy: where reading the file may erase it, it goes if its mode number and its disk say so: 107, 105
abbrev pub erasing : Bool → ℕ → Name → Stepped → Act Stepped
erasing may n name (Did s) = if may then consuming s n name else Done (Did s)
erasing may n name (Failed course) = Done (Failed course)

-- the copy, with what follows behind it
abbrev pub copy_erased : Machine → List Token → CopyLine → Copying → Act Stepped
copy_erased s words line c = bind (copy_into s words line c) (erasing (may_erase line c) c.letter c.input.file.name)

-- the file that is copied, as TYPE shows it
abbrev pub input_shown : Copying → FileShown
input_shown c = record { letter = c.letter; name = c.input.file.name; number = c.input.file.number }

-- the copy, as TYPE shows it
abbrev pub output_shown : CopyLine → Copying → FileShown
output_shown line c = record { letter = c.to; name = c.name; number = number_of line c }

-- with TYPE it is typed once it is copied
abbrev pub copy_told : Machine → List Token → CopyLine → Copying → Act Stepped
copy_told s words line c = bind (copy_erased s words line c) (telling line.style.types (copy_text (input_shown c) (output_shown line c)))

-- the output's disk may be written: 037
abbrev pub copy_of : Machine → List Token → CopyLine → Copying → Act Stepped
copy_of s words line c = on_step s words 1 (λ shelf. copy_told s words line c) (writable (shelves_in s) c.to)

-- what is done with the file that was found; where it is copied to is seen first
abbrev pub with_copying : List Token → CopyLine → Machine → NamedFile → (Copying → Act Stepped) → Act Stepped
with_copying words line s file next = on_step s words 1 (λ x. next (copying_of s line file x)) (file_at s file)

-- a file that was found is copied, where it is there still
abbrev pub copy_found : List Token → CopyLine → Machine → NamedFile → Act Stepped
copy_found words line s file = with_copying words line s file (copy_of s words line)

-- ---- the command

-- an output letter that is given is that of a disk that may be written
abbrev pub output_is_written : Shelves → Option WriteMode → Result ⊤ SearchFault
output_is_written shelves None = Ok tt
output_is_written shelves (Some mode) = do
  shelf ← writable shelves mode.letter
  Ok tt

-- the files that are copied, letter by letter: 069, then that of the output and 037, 002
abbrev pub files_copied : Machine → CopyLine → Result (List NamedFile) SearchFault
files_copied s line = do
  found ← search (shelves_in s) line.files.mode (takes_name line.files.names)
  output_is_written (shelves_in s) line.files.output.mode
  some_found (files_named (shelves_in s) found)

-- the files that the line means are copied one after another, until one is refused
abbrev pub copy_files : Machine → List Token → CopyLine → Act Course
copy_files s words line = on_found s words 1 (λ files. updating_each (copy_found words line) files s) (files_copied s line)

-- files are copied in the order in which they were found, by one update each and one more where that erases the input; the first refusal
-- stops
abbrev pub copyfile : Machine → List Token → Act Course
copyfile s words = on_line s words (copy_files s words) (copy_line words)

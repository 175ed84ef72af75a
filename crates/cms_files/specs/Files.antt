-- The files of the machine's disks, as commands find, show and refuse them.
use Rattle.std.specs.Prelude.{ℕ, ◌+◌, ◌%◌, ◌&&◌, Bool, if◌then◌else◌, List, [], ◌∷◌, ◌++◌, filter, is_some, position, slice_get, Option, Some, None, Result, Ok, Err}
use Rattle.cms_fields.specs.Steps.{◌>>=◌}
use Rattle.cms_names.specs.declared.name.Name.{Name}
use Rattle.cms_model.specs.Changes.{file_named}
use Rattle.cms_model.specs.Minidisks.{File, Minidisk, same_name}
use Rattle.cms_model.specs.Acts.{Act, Out, typed_line}
use Rattle.cms_line.specs.declared.message.Message.{Message}
use Rattle.cms_line.specs.declared.message.Message.TheVariants.{M002, M024, M037, M069, M113}
use Rattle.cms_line.specs.declared.token.Token.{Token}
use Rattle.cms_operands.specs.Operands.{operands_of}
use Rattle.cms_operands.specs.Refusals.{code_of, message_of}
use Rattle.cms_operands.specs.declared.operand.WriteMode.{WriteMode}
use Rattle.cms_operands.specs.declared.refusal.Refusal.{Refusal}
use Rattle.cms_search.specs.Machine.{Letter, Machine, Course, minidisk_in, refusal}
use Rattle.cms_search.specs.Refusals.{no_disk}
use Rattle.cms_search.specs.Searches.{Listed, Shelf, Shelves, item_at, look_up, shelves_in}
use Rattle.cms_search.specs.Texts.{device_text, letter_text}
use Rattle.cms_search.specs.declared.fault.SearchFault.{SearchFault}
use Rattle.cms_search.specs.declared.fault.SearchFault.TheVariants as why
use Rattle.cms_search.specs.declared.search.Found.{Found}
use Rattle.cms_files.specs.Identifiers.{mode_or_a, part_or_all, takes_name, takes_number}
use Rattle.cms_files.specs.declared.identifier.FileInput.{FileInput}
use Rattle.cms_files.specs.declared.identifier.NameChoice.{NameChoice}

-- ---- how files are shown

-- a letter and a mode number, one digit
abbrev pub mode_text : ℕ → ℕ → List ℕ
mode_text n number = letter_text n ++ (0xF0 + number % 10) ∷ []

-- a file's name, its type, and its mode, with one blank between
abbrev pub file_text : ℕ → Name → ℕ → List ℕ
file_text n name number = name.file ++ 0x40 ∷ (name.kind ++ 0x40 ∷ mode_text n number)

-- where the option TYPE was given a line is typed
abbrev pub told : {R : Type 0} → Bool → List ℕ → Act R → Act R
told types text next = if types then Out (typed_line text) next else next

-- ---- refusals

-- the code of a file that isn't there, or is there already
abbrev pub no_file_code : ℕ
no_file_code = 28

-- the file is shown as the line has it, from a place on; an operand that isn't given by its default
abbrev pub missing_file : List Token → ℕ → Message
missing_file operands place = M002 (part_or_all operands place) (part_or_all operands (place + 1)) (mode_or_a operands (place + 2))

-- why a search isn't answered, whose file stands in the words from a place on
abbrev pub search_message : List Token → ℕ → SearchFault → Message
search_message words place (why.NotAccessed n) = M069 (letter_text n)
search_message words place (why.ReadOnly n) = M037 (letter_text n)
search_message words place (why.NoUnit vdev) = M113 (device_text vdev)
search_message words place why.NotFound = missing_file (operands_of words) place
search_message words place (why.Volume fault) = missing_file (operands_of words) place
search_message words place why.Memory = missing_file (operands_of words) place

-- the code of a search that isn't answered
abbrev pub search_code : SearchFault → ℕ
search_code (why.NotAccessed n) = no_disk
search_code (why.ReadOnly n) = no_disk
search_code (why.NoUnit vdev) = no_disk
search_code why.NotFound = no_file_code
search_code (why.Volume fault) = no_file_code
search_code why.Memory = no_file_code

-- a search isn't answered: its message is typed, with its code
abbrev pub search_refused : Machine → List Token → ℕ → SearchFault → Act Course
search_refused s words place fault = refusal s (search_message words place fault) (search_code fault)

-- goes on with what a search found; or it is refused
abbrev pub on_found : {A : Type 0} → Machine → List Token → ℕ → (A → Act Course) → Result A SearchFault → Act Course
on_found s words place next (Ok x) = next x
on_found s words place next (Err fault) = search_refused s words place fault

-- a word of the line is refused behind the disks and files
abbrev pub word_refused : Machine → List Token → Refusal → Act Course
word_refused s words refused = refusal s (message_of words refused) (code_of refused)

-- the file of this name on the disk of letter n is there already
abbrev pub file_exists : Machine → Name → List ℕ → Act Course
file_exists s name mode = refusal s (M024 name.file name.kind mode) no_file_code

-- ---- files that are read

-- a file, and the unit of its disk
pub record UnitFile : Type 0 where
  pub unit : ℕ
  pub file : File

-- a file with its unit, or it isn't there
abbrev pub unit_file : ℕ → Option File → Result UnitFile SearchFault
unit_file u None = Err why.NotFound
unit_file u (Some f) = Ok (record { unit = u; file = f })

-- the file of a name in a minidisk, with its unit
abbrev pub file_in : ℕ → Name → Option Minidisk → Result UnitFile SearchFault
file_in u name None = Err why.NotFound
file_in u name (Some m) = unit_file u (file_named name m.files)

-- the file of a name on the disk of a letter
abbrev pub file_on : Machine → Name → Option Letter → Result UnitFile SearchFault
file_on s name None = Err why.NotFound
file_on s name (Some disk) = file_in disk.unit name (minidisk_in (slice_get s.units disk.unit))

-- the first disk on which a file's mode finds it: 069, 002
abbrev pub file_found : Machine → FileInput → Result Found SearchFault
file_found s input = look_up (shelves_in s) input.mode input.name

-- ---- files that are changed

-- the disk of a letter that may be written: 069, 037
abbrev pub writable_shelf : ℕ → Option Shelf → Result Shelf SearchFault
writable_shelf n None = Err (why.NotAccessed n)
writable_shelf n (Some shelf) = if shelf.letter.read_only then Err (why.ReadOnly n) else Ok shelf

-- the disk of letter n, where it is accessed and may be written
abbrev pub writable : Shelves → ℕ → Result Shelf SearchFault
writable shelves n = writable_shelf n (item_at shelves n)

-- a list that isn't empty: 002
abbrev pub some_found : {A : Type 0} → List A → Result (List A) SearchFault
some_found [] = Err why.NotFound
some_found (x ∷ xs) = Ok (x ∷ xs)

-- the files that a choice of names and a mode take, in their order
abbrev pub is_taken : NameChoice → Option ℕ → Listed → Bool
is_taken names number f = takes_name names f.name && takes_number number f.number

-- the files of a disk that is written, in the directory's order: 069, 037, 002
abbrev pub files_written : Shelves → NameChoice → WriteMode → Result (List Listed) SearchFault
files_written shelves names mode = do
  shelf ← writable shelves mode.letter
  some_found (filter (is_taken names mode.number) shelf.files)

-- a file has the name
abbrev pub has_name : Name → List Listed → Bool
has_name name files = is_some (position (λ f. same_name name f.name) files)

-- the disk of a letter that may be written and has a file of a name: 069, 037, 002
abbrev pub with_name : Name → Shelf → Result Shelf SearchFault
with_name name shelf = if has_name name shelf.files then Ok shelf else Err why.NotFound

-- the same, where it has a file of this name
abbrev pub shelf_with : Shelves → ℕ → Name → Result Shelf SearchFault
shelf_with shelves n name = do
  shelf ← writable shelves n
  with_name name shelf

-- the disk, where it was found
abbrev pub found_shelf : Result Shelf SearchFault → Option Shelf
found_shelf (Ok shelf) = Some shelf
found_shelf (Err why) = None

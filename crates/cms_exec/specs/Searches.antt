-- Procedures, as they are found by their names.
use Rattle.std.specs.Prelude.{ℕ, List, slice_get, Option, Some, None, Result, Ok, Err}
use Rattle.std.specs.Option.{option_and_then, option_map}
use Rattle.cms_names.specs.Names.{part_of}
use Rattle.cms_names.specs.declared.fault.NameFault.{NameFault}
use Rattle.cms_names.specs.declared.name.Name.{Name}
use Rattle.cms_line.specs.declared.token.Token.{Token}
use Rattle.cms_operands.specs.Operands.{given}
use Rattle.cms_operands.specs.declared.mode.ReadMode.TheVariants.{Any}
use Rattle.cms_search.specs.Machine.{Machine}
use Rattle.cms_search.specs.Searches.{Listed, Shelves, found_at, item_at, look_up, shelves_in}
use Rattle.cms_search.specs.Tables.{AccessTable}
use Rattle.cms_search.specs.declared.fault.SearchFault.{SearchFault}
use Rattle.cms_search.specs.declared.search.Found.{Found}
use Rattle.cms_files.specs.Identifiers.{exec_kind}
use Rattle.cms_files.specs.Told.{IsFoundAt}
use Rattle.exec2_run.specs.declared.exec.FileName.{FileName}
use Rattle.cms_exec.specs.declared.search.FoundProcedure.{FoundProcedure}

-- the name of a procedure's file: its type is EXEC
abbrev pub exec_name : List ℕ → Name
exec_name file = record { file = file; kind = exec_kind }

-- the file in a place of a letter's disk
abbrev pub listed_at : Shelves → Found → Option Listed
listed_at shelves found = option_and_then (λ shelf. slice_get shelf.files found.place) (item_at shelves found.letter)

-- a file that was found, with its letter and its mode number
abbrev pub file_name : Name → ℕ → Listed → FileName
file_name name n f = record { name = name; letter = n; number = f.number }

-- a file that was found, with its letter and its mode number
abbrev pub file_found : Shelves → Name → Found → Option FileName
file_found shelves name found = option_map (λ f. file_name name found.letter f) (listed_at shelves found)

-- the same of what a search answered
abbrev pub found_as : Shelves → Name → Result Found SearchFault → Option FileName
found_as shelves name (Ok found) = file_found shelves name found
found_as shelves name (Err why) = None

-- the procedure of a name, the first that is found over all disks
abbrev pub procedure_in : Shelves → List ℕ → Option FileName
procedure_in shelves file = found_as shelves (exec_name file) (look_up shelves Any (exec_name file))

-- the procedure of a name that is found first over all disks
abbrev pub procedure_named : Machine → List ℕ → Option FileName
procedure_named s file = procedure_in (shelves_in s) file

-- its file stands where it was found
abbrev pub IsThere : AccessTable → FoundProcedure → Type 0
IsThere t f = IsFoundAt t (found_at f.file.letter f.place) f.file.name

-- ---- a procedure that a line's first word names

-- the name that was read, where it is one
abbrev pub valid_name : Result (List ℕ) NameFault → Option (List ℕ)
valid_name (Ok file) = Some file
valid_name (Err why) = None

-- the first word, where it is a valid file name
abbrev pub first_name : List Token → Option (List ℕ)
first_name words = option_and_then (λ text. valid_name (part_of text)) (given words 0)

-- the procedure of that name
abbrev pub called_by : Machine → List Token → Option FileName
called_by s words = option_and_then (λ file. procedure_named s file) (first_name words)

-- Files of mode number 3: the command that has read one to its end erases it.
use Rattle.std.specs.Prelude.{ℕ, Bool, false, not, ◌==◌, ◌&&◌, if◌then◌else◌, List, Result, Ok, Err}
use Rattle.cms_names.specs.declared.name.Name.{Name}
use Rattle.cms_model.specs.Changes.{Drop}
use Rattle.cms_model.specs.Acts.{Act, Done, bind}
use Rattle.cms_model.specs.Slots.{Slot}
use Rattle.cms_search.specs.DeviceSteps.{Stepped, Did, unless_failed}
use Rattle.cms_search.specs.Machine.{Machine, Course, letter_at}
use Rattle.cms_search.specs.Searches.{has}
use Rattle.cms_search.specs.declared.fault.SearchFault.{SearchFault}
use Rattle.cms_search.specs.declared.state.State.{State}
use Rattle.cms_search.specs.Calls.{machine_of}
use Rattle.cms_files.specs.Files.{UnitFile, file_on}
use Rattle.cms_files.specs.Updates.{updating, went}

-- the mode number of files that are erased once they are read
abbrev pub read_once : ℕ
read_once = 3

-- a file was found, and has a mode number
abbrev pub is_numbered : ℕ → Result UnitFile SearchFault → Bool
is_numbered number (Ok x) = x.file.number == number
is_numbered number (Err why) = false

-- reading the file of a name on the disk of letter n to its end erases it: its mode number is 3, and the disk isn't read-only
abbrev pub is_consumed : Machine → ℕ → Name → Bool
is_consumed s n name = is_numbered read_once (file_on s name (letter_at s n)) && has (λ disk. not disk.read_only) (letter_at s n)

-- behind the work on a file that was read to its end: where it is to be erased, by an update of its own: 107, 105
abbrev pub consuming : Machine → ℕ → Name → Act Stepped
consuming s n name = if is_consumed s n name then updating s n (Drop name) else Done (Did s)

-- the same, as the last thing of a command
abbrev pub last_consuming : Machine → ℕ → Name → Act Course
last_consuming s n name = bind (consuming s n name) (unless_failed went)

-- ---- the calls

-- a file that was read to its end goes where it is to be erased, on the machine with these units
abbrev pub consuming_tree : State → ℕ → Name → List Slot → Act Stepped
consuming_tree s n name units = consuming (machine_of s units) n name

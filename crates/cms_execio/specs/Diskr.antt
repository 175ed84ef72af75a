-- DISKR: records of a file are stacked.
use Rattle.std.specs.Prelude.{ℕ, zero, suc, pos, negsuc, ◌+◌, ◌-◌, ◌==◌, ◌&&◌, nat_lt, if◌then◌else◌, Bool, true, false, List, [], ◌∷◌, drop, length, map, min, take, Option, Some, None, Result, Ok, Err}
use Rattle.std.specs.FinMap.{get, insert}
use Rattle.std.specs.Option.{option_map_or, unwrap_or}
use Rattle.cms_names.specs.declared.name.Name.{Name}
use Rattle.cms_model.specs.Changes.{Drop}
use Rattle.cms_model.specs.Acts.{Act, Done, bind}
use Rattle.cms_model.specs.Slots.{Slot}
use Rattle.cms_line.specs.declared.token.Token.{Token}
use Rattle.cms_search.specs.Machine.{Machine, Course, Places, Went, OutOfTurns, letter_at, place_key}
use Rattle.cms_search.specs.Places.{after}
use Rattle.cms_search.specs.Refusals.{device_fault}
use Rattle.cms_search.specs.Units.{vdev_of}
use Rattle.cms_search.specs.Calls.{Spot, holds, machine_of}
use Rattle.cms_search.specs.declared.fault.SearchFault.{SearchFault}
use Rattle.cms_search.specs.declared.search.Found.{Found}
use Rattle.cms_search.specs.declared.state.State.{State}
use Rattle.cms_search.specs.DeviceSteps.{reading, silently, unless_failed}
use Rattle.cms_search.specs.declared.place_event.PlaceEvent.TheVariants as event
use Rattle.cms_files.specs.Files.{UnitFile, file_found, file_on, on_found}
use Rattle.cms_files.specs.ModeThree.{is_consumed}
use Rattle.cms_files.specs.StackedLines.{StacksSome, stacking}
use Rattle.cms_files.specs.Updates.{updating}
use Rattle.cms_execio.specs.Records.{stacked_line}
use Rattle.cms_execio.specs.declared.line.ReadLine.{ReadLine}
use Rattle.cms_execio.specs.declared.line.ReadRange.{ReadRange}

-- ---- which records

-- how many records stand in front of the first that is read: by the line, else by the place that is kept, else none
abbrev pub in_front : Places → ReadRange → ℕ → ℕ
in_front places range vdev = option_map_or (λ first. first - 1) range.first (unwrap_or (get places (place_key vdev range.input.name)) 0)

-- how many are read of so many that are left
abbrev pub taken_of : Option ℕ → ℕ → ℕ
taken_of None left = left
taken_of (Some n) left = min n left

-- the code where fewer records were left than a number asks for
abbrev pub end_of_file : ℕ
end_of_file = 2

-- the code of a reading: 2 where fewer records were left than a number asks for
abbrev pub code_of_taken : Option ℕ → ℕ → ℕ
code_of_taken None taken = 0
code_of_taken (Some n) taken = if nat_lt taken n then end_of_file else 0

-- ---- what is done with them

-- reading goes on behind so many records; with FINIS no place is kept
abbrev pub going_on : Bool → ℕ → Name → ℕ → Places → Places
going_on true vdev name next places = after (event.Finished vdev name) places
going_on false vdev name next places = insert places (place_key vdev name) next

-- goes on where a part of the command came to code 0; any other ends it
abbrev pub if_good : (Machine → Act Course) → Course → Act Course
if_good next (Went s (pos zero)) = next s
if_good next (Went s (pos (suc code))) = Done (Went s (pos (suc code)))
if_good next (Went s (negsuc code)) = Done (Went s (negsuc code))
if_good next OutOfTurns = Done OutOfTurns

-- where reading goes on, behind so many records
abbrev pub places_behind : ReadLine → ℕ → ℕ → Places → Places
places_behind line vdev next places = going_on line.style.forgets vdev line.range.input.name next places

-- the command's end, behind records of which so many were stacked
abbrev pub read_ended : ReadLine → ℕ → Machine → Act Course
read_ended line taken s = Done (Went s (pos (code_of_taken line.range.count taken)))

-- reading goes on behind so many records and those that were stacked
abbrev pub keep_place : ReadLine → ℕ → ℕ → ℕ → Machine → Act Course
keep_place line vdev front taken s =
    read_ended line taken (record s { places = places_behind line vdev (front + taken) s.places })

-- the file goes, and no place is kept; where that is refused reading goes on where it did: 107, 105
abbrev pub erase_read : ReadLine → ℕ → ℕ → Machine → Act Course
erase_read line n taken s = bind (updating s n (Drop line.range.input.name)) (unless_failed (read_ended line taken))

-- behind the lines: where the file's last record is among them the file on the disk of letter n may be erased
abbrev pub read_done : ReadLine → ℕ → ℕ → Bool → ℕ → ℕ → Machine → Act Course
read_done line n vdev last front taken s =
    if last && is_consumed s n line.range.input.name then erase_read line n taken s else keep_place line vdev front taken s

-- the lines are stacked, all or none: 120
abbrev pub stack_read : Machine → ReadLine → ℕ → ℕ → Bool → ℕ → ℕ → List (List ℕ) → Act Course
stack_read s line n vdev last front taken lines =
    bind (stacking s line.style.end lines) (if_good (read_done line n vdev last front taken))

-- the lines that records are: so many, behind so many in front of them
abbrev pub lines_taken : Bool → ℕ → ℕ → List (List ℕ) → List (List ℕ)
lines_taken strips front taken records = map (stacked_line strips) (take taken (drop front records))

-- the line that a record is which has so many in front of it, where it isn't one in front of those that are stacked
abbrev pub line_of_nth : Bool → ℕ → ℕ → List ℕ → List (List ℕ)
line_of_nth strips front nth text = if nat_lt nth front then [] else stacked_line strips text ∷ []

-- the records are read up to the last that is stacked, where there is one: 105
abbrev pub read_taken : Machine → ReadLine → ℕ → UnitFile → ℕ → ℕ → ℕ → Act Course
read_taken s line n x vdev front taken =
    if taken == 0 then stack_read s line n vdev false front 0 []
    else reading silently x.unit x.file (front + taken)
    (stack_read s line n vdev (front + taken == length x.file.records) front taken (lines_taken line.style.strips front taken x.file.records))
    (device_fault s vdev)

-- the records that are wanted are read, behind so many that stand in front
abbrev pub read_from : Machine → ReadLine → ℕ → UnitFile → ℕ → ℕ → Act Course
read_from s line n x vdev front = read_taken s line n x vdev front (taken_of line.range.count (length x.file.records - front))

-- the same, from where the line or the reading place says
abbrev pub read_found : Machine → ReadLine → ℕ → UnitFile → Act Course
read_found s line n x = read_from s line n x (vdev_of s x.unit) (in_front s.places line.range (vdev_of s x.unit))

-- the lines of a file's records that are wanted
abbrev pub lines_found : Machine → ReadLine → UnitFile → List (List ℕ)
lines_found s line x =
    let front = in_front s.places line.range (vdev_of s x.unit) in
    lines_taken line.style.strips front (taken_of line.range.count (length x.file.records - front)) x.file.records

-- those of what was found; none where nothing was
abbrev pub lines_in : Machine → ReadLine → Result UnitFile SearchFault → List (List ℕ)
lines_in s line (Ok x) = lines_found s line x
lines_in s line (Err fault) = []

-- those of the file of the line's name on the disk of letter n
abbrev pub lines_on : Machine → ReadLine → ℕ → List (List ℕ)
lines_on s line n = lines_in s line (file_on s line.range.input.name (letter_at s n))

-- the file of the line's name on the disk of letter n
abbrev pub read_on : Machine → List Token → ReadLine → ℕ → Act Course
read_on s words line n = on_found s words 3 (read_found s line n) (file_on s line.range.input.name (letter_at s n))

-- records of a file are stacked; one of mode number 3 is erased behind its last: 069, 002, 105, 120, 107
abbrev pub disk_read : Machine → List Token → ReadLine → Act Course
disk_read s words line = on_found s words 3 (λ found. read_on s words line found.letter) (file_found s line.range.input)

-- ---- what is stacked, also where it is cut off

-- the lines of the file that a search found; none where it found none
abbrev pub lines_read : Machine → ReadLine → Result Found SearchFault → List (List ℕ)
lines_read s line (Ok found) = lines_on s line found.letter
lines_read s line (Err fault) = []

-- some of the lines that the machine has there are stacked, the first ones, whichever units it holds
abbrev pub StacksRead : Spot → State → ReadLine → (Machine → List (List ℕ)) → Type 0
StacksRead old new line lines =
    (units : List Slot) → holds old units → StacksSome line.style.end (lines (machine_of old.state units)) old.state.stack new.stack

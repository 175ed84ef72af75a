-- Updates of files: one change of a minidisk each, behind which no reading place is kept in the files that it is of.
use Rattle.std.specs.Prelude.{ℕ, pos, Bool, List, [], ◌∷◌, Option, Some, None, Result, Ok, Err}
use Rattle.cms_names.specs.declared.name.Name.{Name}
use Rattle.cms_text.specs.Numbers.{decimal_of}
use Rattle.cms_model.specs.Changes.{Change, Put, Add, Drop, Rename, Relabel, Century}
use Rattle.cms_model.specs.Acts.{Act, Done, bind}
use Rattle.cms_line.specs.declared.message.Message.TheVariants.{M107, M120}
use Rattle.cms_search.specs.ChangeTold.{limited}
use Rattle.cms_search.specs.Machine.{Letter, Machine, Places, Course, Went, letter_at, refusal}
use Rattle.cms_operands.specs.declared.operand.WriteMode.{WriteMode}
use Rattle.cms_search.specs.Refusals.{fault}
use Rattle.cms_search.specs.Places.{after}
use Rattle.cms_search.specs.Units.{vdev_of}
use Rattle.cms_search.specs.Searches.{Listed, shelves_in}
use Rattle.cms_search.specs.DeviceSteps.{Stepped, Did, Failed, Changing, IsChanged, IsLimited, IsFull, HasFailed, changing, unless_failed}
use Rattle.cms_search.specs.Texts.{letter_text}
use Rattle.cms_search.specs.declared.fault.SearchFault.{SearchFault}
use Rattle.cms_line.specs.declared.token.Token.{Token}
use Rattle.cms_model.specs.Slots.{Slot}
use Rattle.cms_search.specs.Calls.{Meaning, course_of, machine_of}
use Rattle.cms_search.specs.declared.place_event.PlaceEvent.TheVariants as event
use Rattle.cms_search.specs.declared.state.Course as declared_course
use Rattle.cms_search.specs.declared.state.End.{End}
use Rattle.cms_search.specs.declared.state.State.{State}
use Rattle.cms_files.specs.declared.update.Updated as declared
use Rattle.cms_files.specs.declared.update.Updated.TheVariants as came
use Rattle.cms_files.specs.Files.{files_written, on_found, search_refused, told}
use Rattle.cms_files.specs.declared.identifier.NameChoice.{NameChoice}

-- the files that a change is of; where stamps are moved no records are others, and a reading place is a number of records
abbrev pub names_of : Change → List Name
names_of (Put f) = f.name ∷ []
names_of (Add name more stamp) = name ∷ []
names_of (Drop name) = name ∷ []
names_of (Rename from to number) = from ∷ to ∷ []
names_of (Relabel volid) = []
names_of (Century pivot) = []

-- no reading place is kept in these files of a device
abbrev pub places_without : ℕ → List Name → Places → Places
places_without vdev [] places = places
places_without vdev (name ∷ names) places = places_without vdev names (after (event.Changed vdev name) places)

-- no reading place is kept in the files of these names on a device
abbrev pub forgetting : Machine → ℕ → List Name → Machine
forgetting s vdev names = record s { places = places_without vdev names s.places }

-- the device of a letter's disk
abbrev pub vdev_at : Machine → Option Letter → ℕ
vdev_at s None = 0
vdev_at s (Some disk) = vdev_of s disk.unit

-- the command ended
abbrev pub stopping : Act Course → Act Stepped
stopping tree = bind tree (λ course. Done (Failed course))

-- goes on with what a search found; or it is refused, and the command ended
abbrev pub on_step : {A : Type 0} → Machine → List Token → ℕ → (A → Act Stepped) → Result A SearchFault → Act Stepped
on_step s words place next (Ok x) = next x
on_step s words place next (Err why) = stopping (search_refused s words place why)

-- what a change came to: 120, 107; 105 is typed by then
abbrev pub updated : ℕ → ℕ → Change → Changing → Act Stepped
updated n vdev change (IsChanged s) = Done (Did (forgetting s vdev (names_of change)))
updated n vdev change (IsLimited s k) = stopping (refusal s (M120 (decimal_of k)) limited)
updated n vdev change (IsFull s need free) = stopping (refusal s (M107 (letter_text n) (decimal_of need) (decimal_of free)) fault)
updated n vdev change (HasFailed course) = Done (Failed course)

-- one update of the minidisk of letter n
abbrev pub updating : Machine → ℕ → Change → Act Stepped
updating s n change = bind (changing s n change) (updated n (vdev_at s (letter_at s n)) change)

-- the command ends well
abbrev pub went : Machine → Act Course
went s = Done (Went s (pos 0))

-- one update of the minidisk of letter n, as the last thing of a command
abbrev pub last_update : Machine → ℕ → Change → Act Course
last_update s n change = bind (updating s n change) (unless_failed went)

-- ---- files, one after another

-- behind an update of a file: with TYPE it is typed
abbrev pub telling : Bool → List ℕ → Stepped → Act Stepped
telling types text (Did s) = told types text (Done (Did s))
telling types text (Failed course) = Done (Failed course)

-- each is updated in its turn; the first refusal stops
unfoldable pub updating_each : {A : Type 0} → (Machine → A → Act Stepped) → List A → Machine → Act Course
updating_each update [] s = went s
updating_each update (x ∷ xs) s = bind (update s x) (unless_failed (updating_each update xs))

-- the files of a disk that a choice of names and a mode mean are updated, in the directory's order: 069, 037, 002
abbrev pub updating_taken : Machine → List Token → NameChoice → WriteMode → (Machine → Listed → Act Stepped) → Act Course
updating_taken s words names mode update =
    on_found s words 1 (λ files. updating_each update files s) (files_written (shelves_in s) names mode)

-- ---- the calls

-- one update of letter n's disk, on the machine with these units
abbrev pub updating_tree : State → ℕ → Change → List Slot → Act Stepped
updating_tree s n change units = updating (machine_of s units) n change

-- what an update came to, with the state that is left
abbrev pub updated_of : State → Meaning declared.Updated Stepped
updated_of s units came.Done = Did (machine_of s units)
updated_of s units (came.Stopped course) = Failed (course_of s units course)

-- the refusal's course is what an update comes to
abbrev pub with_stopped : Result declared_course.Course End → Result declared.Updated End
with_stopped (Ok course) = Ok (came.Stopped course)
with_stopped (Err e) = Err e

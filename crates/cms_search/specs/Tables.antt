-- The access table: the units, and the letters as which their disks are accessed.
use Rattle.std.specs.Prelude.{◌≡◌, ℕ, ◌+◌, Bool, true, false, not, ◌==◌, ◌||◌, if◌then◌else◌, List, length, map, position, replicate, slice_get, slice_set, Option, Some, None, is_some, IfOk, IfSome, Result, Ok, Err, ⊤}
use Rattle.std.specs.Option.{ForSome, option_map, option_and_then}
use Rattle.cms_journal.specs.Told.{Told}
use Rattle.cms_model.specs.LawsSizes.{IsWhole}
use Rattle.cms_model.specs.LawsUpdates.{now}
use Rattle.cms_model.specs.declared.fault.OpenFault.TheVariants as failed
use Rattle.cms_names.specs.declared.name.Name.{Name}
use Rattle.cms_held.specs.HeldVolumes.{HeldFile}
use Rattle.cms_edf.specs.OpeningSteps.{OfImage}
use Rattle.cms_edf.specs.declared.held.FileInfo.{FileInfo}
use Rattle.cms_disk.specs.Cursors.{Cursor, SameFile}
use Rattle.cms_disk.specs.Disks.{Accessed, AnswersAccess, IsLeft, IsOn, IsQuiet, StartsAt, disk_on, synced, told_with}
use Rattle.cms_disk.specs.declared.fault.AccessFault.{AccessFault}
use Rattle.cms_disk.specs.declared.fault.AccessFault.TheVariants.{Sync, Open}
use Rattle.cms_disk.specs.declared.unit.UnitInfo.{UnitInfo}
use Rattle.cms_search.specs.Machine.{Letter}
use Rattle.cms_search.specs.Searches.{Listed, Shelf, Shelves, item_at}
use Rattle.cms_search.specs.declared.fault.SearchFault.{SearchFault}
use Rattle.cms_search.specs.declared.fault.SearchFault.TheVariants.{Memory, NoUnit, NotAccessed, ReadOnly, Volume}
use Rattle.cms_search.specs.declared.readings.KeptReading.{KeptReading}

-- ---- letters: lists with a disk or none for each letter, A first

-- none of those that pass has a letter any more
abbrev pub without : {A : Type 0} → (A → Bool) → List (Option A) → List (Option A)
without passes xs = map (λ x. option_and_then (λ d. if passes d then None else Some d) x) xs

-- a disk takes a letter: its unit leaves its old letter, and the letter its old unit
abbrev pub put_on : {A : Type 0} → (A → ℕ) → A → ℕ → List (Option A) → List (Option A)
put_on unit_of d n xs = slice_set (without (λ e. unit_of e == unit_of d) xs) n (Some d)

-- a letter has no disk any more
abbrev pub cleared : {A : Type 0} → ℕ → List (Option A) → List (Option A)
cleared n xs = slice_set xs n None

-- ---- ACCESS

-- the parent that a letter gets by /ext: none by x/x
abbrev pub parent_of : ℕ → Option ℕ → Option ℕ
parent_of n ext = option_and_then (λ p. if p == n then None else Some p) ext

-- a unit's disk as a letter: read-only by /ext, and where the unit may not be written
abbrev pub letter_for : ℕ → Bool → ℕ → Option ℕ → Letter
letter_for unit writable n ext = record { unit = unit; parent = parent_of n ext; read_only = is_some ext || not writable }

-- the letter of /ext that is missing: it isn't accessed, and isn't the new letter itself
abbrev pub missing_parent : {A : Type 0} → List (Option A) → ℕ → Option ℕ → Option ℕ
missing_parent xs n ext = option_and_then (λ p. if (p == n) || is_some (item_at xs p) then None else Some p) ext

-- the unit that is accessed, or why none is looked at: no unit has the device, or the parent is missing
abbrev pub wanted_unit : ℕ → Option ℕ → Option ℕ → Result ℕ SearchFault
wanted_unit vdev None missing = Err (NoUnit vdev)
wanted_unit vdev (Some u) (Some p) = Err (NotAccessed p)
wanted_unit vdev (Some u) None = Ok u

-- ---- a table as it is held

-- an accessed disk with its letter's marks, and the reading of one of its files that it keeps
pub record Seated : Type 0 where
  pub letter : Letter
  pub disk : Accessed
  pub reading : Option KeptReading

-- the units, whether each is in doubt, and the disk of each letter; a disk's unit is its place among the units
pub record AccessTable : Type 0 where
  pub units : List UnitInfo
  pub doubts : List Bool
  pub seats : List (Option Seated)

-- the marks of each letter's disk
abbrev pub letters_in : List (Option Seated) → List (Option Letter)
letters_in seats = map (λ x. option_map (λ s. s.letter) x) seats

-- the same of a table
abbrev pub letters_of : AccessTable → List (Option Letter)
letters_of t = letters_in t.seats

-- the place of the unit of a device
abbrev pub place_of_device : ℕ → List UnitInfo → Option ℕ
place_of_device vdev units = position (λ unit. unit.vdev == vdev) units

-- the unit that has a device
abbrev pub unit_of_device : ℕ → List UnitInfo → Option UnitInfo
unit_of_device vdev units = option_and_then (λ u. slice_get units u) (place_of_device vdev units)

-- no two units have the same device
abbrev pub HaveDistinctDevices : List UnitInfo → Type 0
HaveDistinctDevices units = (a b : ℕ) (v w : UnitInfo) → slice_get units a ≡ Some v → slice_get units b ≡ Some w → v.vdev ≡ w.vdev → a ≡ b

-- a unit stands on one letter at most
abbrev pub StandOnce : List (Option Seated) → Type 0
StandOnce seats = (a b : ℕ) (s t : Seated) → item_at seats a ≡ Some s → item_at seats b ≡ Some t → s.letter.unit ≡ t.letter.unit → a ≡ b

-- the unit of an accessed disk is one of the table's, and isn't in doubt
abbrev pub IsSure : List Bool → Seated → Type 0
IsSure doubts s = slice_get doubts s.letter.unit ≡ Some false

-- it is a reading of a file of the disk, which has handed out as many of the records as it says
pub record IsReadingOf (d : Accessed) (r : KeptReading) : Type 0 where
  pub first : Cursor
  pub starts : StartsAt r.name d.volume first
  pub same : SameFile first r.cursor
  pub left : r.count + r.cursor.left ≡ first.left

-- so is each that is kept
abbrev pub KeepsItsOwn : Seated → Type 0
KeepsItsOwn s = IfSome s.reading (IsReadingOf s.disk)

-- what every table is
pub record IsTable (t : AccessTable) : Type 0 where
  pub distinct : HaveDistinctDevices t.units
  pub doubts : length t.doubts ≡ length t.units
  pub letters : length t.seats ≡ 26
  pub once : StandOnce t.seats
  pub sure : (n : ℕ) (s : Seated) → item_at t.seats n ≡ Some s → IsSure t.doubts s
  pub readings : (n : ℕ) (s : Seated) → item_at t.seats n ≡ Some s → KeepsItsOwn s

-- each accessed disk is on its unit
abbrev pub AreOnUnits : AccessTable → Type 0
AreOnUnits t =
    (n : ℕ) (s : Seated) (unit : UnitInfo) → item_at t.seats n ≡ Some s → slice_get t.units s.letter.unit ≡ Some unit → IsOn unit s.disk

-- ---- what calls make of it

-- nothing is accessed, and no unit is in doubt
abbrev pub new_table : List UnitInfo → AccessTable
new_table units = record { units = units; doubts = replicate (length units) false; seats = replicate 26 None }

-- letter n has no disk any more
abbrev pub released : ℕ → AccessTable → AccessTable
released n t = record t { seats = cleared n t.seats }

-- whether a unit is in doubt
abbrev pub marked : ℕ → Bool → AccessTable → AccessTable
marked u doubt t = record t { doubts = slice_set t.doubts u doubt }

-- a letter's disk is another, with the same marks; no reading of its files is kept
abbrev pub seat_with : Seated → Accessed → Seated
seat_with s d = record s { disk = d; reading = None }

-- letter n has another disk, with the same marks
abbrev pub with_disk : ℕ → Accessed → AccessTable → AccessTable
with_disk n d t = record t { seats = slice_set t.seats n (option_map (λ s. seat_with s d) (item_at t.seats n)) }

-- the reading that the disk of letter n keeps
abbrev pub reading_on : AccessTable → ℕ → Option KeptReading
reading_on t n = option_and_then (λ s. s.reading) (item_at t.seats n)

-- a disk keeps this one, or none
abbrev pub seat_reading : Option KeptReading → Seated → Seated
seat_reading r s = record s { reading = r }

-- the disk of letter n does so
abbrev pub with_reading : ℕ → Option KeptReading → AccessTable → AccessTable
with_reading n r t =
    record t { seats = slice_set t.seats n (option_map (seat_reading r) (item_at t.seats n)) }

-- no disk keeps a reading
abbrev pub unread_seat : Seated → Seated
unread_seat s = record s { reading = None }

abbrev pub without_readings : AccessTable → AccessTable
without_readings t = record t { seats = map (λ x. option_map unread_seat x) t.seats }

-- a reading is of the file of a name, and stands behind so many of its records
abbrev pub Stood : Name → ℕ → KeptReading → Type 0
Stood name count r = (r.name ≡ name) × (r.count ≡ count)

-- a letter is released, and its unit is in doubt
abbrev pub doubted : ℕ → ℕ → AccessTable → AccessTable
doubted n u t = released n (marked u true t)

-- a disk of unit u is seated on letter n
abbrev pub seated : ℕ → Seated → AccessTable → AccessTable
seated n s t = record t { seats = put_on (λ e. e.letter.unit) s n t.seats }

-- ---- an access

-- what the unit's opening answers, as the table answers it
abbrev pub answer_for : Result Accessed AccessFault → Result ⊤ SearchFault
answer_for (Ok d) = Ok tt
answer_for (Err Sync) = Err (Volume failed.Device)
answer_for (Err (Open failed.Memory)) = Err Memory
answer_for (Err (Open why)) = Err (Volume why)

-- the table afterwards: a good sync has ended the doubt, but where there was no memory
abbrev pub table_after : AccessTable → ℕ → Letter → ℕ → Result Accessed AccessFault → AccessTable
table_after t u letter n (Ok d) =
    seated n (record { letter = letter; disk = d; reading = None }) (marked u false t)
table_after t u letter n (Err Sync) = t
table_after t u letter n (Err (Open failed.Memory)) = t
table_after t u letter n (Err (Open why)) = marked u false t

-- what is told afterwards: a sync, where the unit was in doubt and it was good
abbrev pub told_after : Bool → ℕ → Told → Result Accessed AccessFault → Told
told_after doubt number told (Ok d) = synced doubt number told
told_after doubt number told (Err e) = told_with e doubt number told

-- the unit was looked at, and this was found
pub record LooksAt (told now_told : Told) (unit : UnitInfo) (doubt : Bool) (found : Result Accessed AccessFault) : Type 0 where
  pub on : IfOk found (IsOn unit)
  pub answers : OfImage now_told unit.unit.number (λ image. AnswersAccess unit image found)
  pub left : ForSome now_told (λ j. IsWhole (disk_on unit) (now j unit.unit.number)
      → (doubt ≡ false → IsQuiet (disk_on unit) j unit.unit.number) → IsLeft (disk_on unit) j unit.unit.number found)
  pub tells : now_told ≡ told_after doubt unit.unit.number told found

-- how an access as letter n ends: refused with nothing done, or by what the unit holds
abbrev pub EndsAccess : Told → Told → AccessTable → AccessTable → ℕ → Option ℕ → Result ⊤ SearchFault → Result ℕ SearchFault → Type 0
EndsAccess told now_told t t' n ext result (Err e) = (result ≡ Err e) × (t' ≡ t) × (now_told ≡ told)
EndsAccess told now_told t t' n ext result (Ok u) =
    (unit : UnitInfo) × (doubt : Bool) × (found : Result Accessed AccessFault) × (slice_get t.units u ≡ Some unit)
    × (slice_get t.doubts u ≡ Some doubt) × LooksAt told now_told unit doubt found × (result ≡ answer_for found)
    × (t' ≡ table_after t u (letter_for u unit.writable n ext) n found)

-- ---- what the table searches

-- a file that is held, as a search sees it
abbrev pub listed_held : HeldFile → Listed
listed_held f = record { name = f.entry.name; number = f.entry.number }

-- the same of what is told of a file
abbrev pub told_of : FileInfo → Listed
told_of info = record { name = info.name; number = info.number }

-- a seated disk, as a search sees it
abbrev pub shelf_of : Seated → Shelf
shelf_of s = record { letter = s.letter; files = map listed_held s.disk.volume.files }

-- the disks of a table, as a search sees them
abbrev pub shelves_of : AccessTable → Shelves
shelves_of t = map (λ x. option_map shelf_of x) t.seats

-- ---- writing

-- a letter may be written: it is accessed, and its disk isn't read-only
abbrev pub writing : Option Letter → ℕ → Result ⊤ SearchFault
writing None n = Err (NotAccessed n)
writing (Some disk) n = if disk.read_only then Err (ReadOnly n) else Ok tt

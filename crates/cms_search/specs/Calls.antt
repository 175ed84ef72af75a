-- What a call does, as a part of the machine's run.
use Rattle.std.specs.Prelude.{⊤, ◌≡◌, ◌≤◌, ℕ, ℤ, true, false, List, [], Some, None, Result, Ok, Err, IfErr, slice_get}
use Rattle.std.specs.FinMap.{empty}
use Rattle.std.specs.Option.{ForSome}
use Rattle.cms_journal.specs.Causes.{Rose}
use Rattle.cms_journal.specs.Journal.{Journal, HasBlocks, IsWritable}
use Rattle.cms_journal.specs.Told.{Told, Idle, Grown}
use Rattle.cms_fields.specs.Moments.{first_moment}
use Rattle.cms_model.specs.Slots.{Slot}
use Rattle.cms_model.specs.Acts.{Act, Done, Out, typed_line}
use Rattle.cms_model.specs.Objects.{Object}
use Rattle.cms_model.specs.Points.{Point}
use Rattle.cms_model.specs.Runs.{Ran, Broke}
use Rattle.cms_world.specs.declared.world.World.{Ghosts}
use Rattle.cms_world.specs.Seen.{Seen, seen}
use Rattle.cms_words.specs.declared.words.Words.{Words}
use Rattle.cms_line.specs.ConsoleState.{fresh}
use Rattle.cms_line.specs.declared.message.Message.{Message}
use Rattle.cms_line.specs.Messages.{message_text}
use Rattle.cms_disk.specs.Disks.{IsOn}
use Rattle.cms_disk.specs.declared.unit.UnitInfo.{UnitInfo}
use Rattle.cms_search.specs.Machine.{Machine, Course, Went, OutOfTurns}
use Rattle.cms_search.specs.Held.{HoldsTable}
use Rattle.cms_search.specs.Searches.{item_at}
use Rattle.cms_search.specs.Shows.{devices_of}
use Rattle.cms_search.specs.Tables.{AccessTable, Seated, letters_of, new_table}
use Rattle.cms_search.specs.declared.state as declared
use Rattle.cms_search.specs.declared.state.Course.TheVariants as course
use Rattle.cms_search.specs.declared.state.End.{End}
use Rattle.cms_search.specs.declared.state.End.TheVariants.{Edge}

-- ---- the program's state, as the machine's

-- the machine with these units; what is on them stands in no state
abbrev pub machine_of : declared.State.State → List Slot → Machine
machine_of s units = record {
  units = units;
  devices = devices_of s.table;
  letters = letters_of s.table;
  stack = s.stack;
  places = s.places;
  offset = s.offset;
  moment = s.moment;
  left = s.left;
}

-- ---- the start

-- nothing is accessed, stacked or kept, and no script is given
abbrev pub first_state : Words → List UnitInfo → declared.State.State
first_state words units = record {
  table = new_table units;
  stack = [];
  console = fresh None;
  places = empty;
  moment = first_moment;
  offset = words.offset;
  left = words.turns;
}

-- ---- what is held of the units

-- nothing is held by a journal that isn't told
abbrev pub Holds : Told → AccessTable → List Slot → Type 0
Holds None t units = ⊥
Holds (Some j) t units = HoldsTable j units t

-- ---- what may be called

-- the blocks of a unit may be read, and written where the unit may be
pub record IsUsableUnit (j : Journal) (unit : UnitInfo) : Type 0 where
  pub blocks : HasBlocks j.units unit.unit.number unit.unit.blocks unit.bsize
  pub writable : unit.writable ≡ true → IsWritable j.units unit.unit.number

-- an accessed disk is on its unit, and is read-only where that may not be written
pub record IsSeatOf (unit : UnitInfo) (s : Seated) : Type 0 where
  pub on : IsOn unit s.disk
  pub marked : unit.writable ≡ false → s.letter.read_only ≡ true

-- all units of a table may be used, and each accessed disk is on its unit
pub record IsUsableTable (j : Journal) (t : AccessTable) : Type 0 where
  pub units : (u : ℕ) (unit : UnitInfo) → slice_get t.units u ≡ Some unit → IsUsableUnit j unit
  pub seats : (n : ℕ) (s : Seated) (unit : UnitInfo) → item_at t.seats n ≡ Some s
      → slice_get t.units s.letter.unit ≡ Some unit → IsSeatOf unit s

-- the same at a journal that may not be told
abbrev pub Usable : Told → AccessTable → Type 0
Usable told t = ForSome told (λ j. IsUsableTable j t)

-- ---- what a world shows

-- later on its journal has grown, and no count has fallen
pub record IsLater (before now : Seen) : Type 0 where
  pub grown : Grown before.told now.told
  pub faults : before.faults ≤ now.faults
  pub edges : before.edges ≤ now.edges

-- where a session with these objects stands: what its world shows, and its state
pub record SpotWith (objects : List Object) : Type 0 where
  pub world : Seen
  pub state : declared.State.State

-- where one without objects stands, as every command does
abbrev pub Spot : Type 0
Spot = SpotWith []

-- the spot of what a world shows, and of a state
abbrev pub spot_at : Seen → declared.State.State → Spot
spot_at world state = record { world = world; state = state }

-- where a session stands, of a world and a state
abbrev pub spot : {W : Type 0} → Ghosts W → W → declared.State.State → Spot
spot shows w s = spot_at (seen shows w) s

-- the same with objects
abbrev pub spot_with : {W : Type 0} → Ghosts W → W → declared.State.State → (objects : List Object) → SpotWith objects
spot_with shows w s objects = record { world = seen shows w; state = s }

-- a spot beside objects
abbrev pub spot_beside : (objects : List Object) → Spot → SpotWith objects
spot_beside objects s = record { world = s.world; state = s.state }

-- and with the machine's units
abbrev pub at : {objects : List Object} → SpotWith objects → List Slot → Point
at {objects} s units = record {
  journal = s.world.told;
  faults = s.world.faults;
  units = units;
  unread = s.state.console.unread;
  ended = s.state.console.ended;
  objects = objects;
}

-- what fits the journal is held of the units at a spot
abbrev pub holds : {objects : List Object} → SpotWith objects → List Slot → Type 0
holds s units = Holds s.world.told s.state.table units

-- the units at a spot may be used
abbrev pub IsUsable : {objects : List Object} → SpotWith objects → Type 0
IsUsable s = Usable s.world.told s.state.table

-- ---- what a value of a call means

-- what it is in the call's tree, by the units that the machine has then
abbrev pub Meaning : Type 0 → Type 0 → Type 0
Meaning T R = List Slot → T → R

-- the machine with this state, beside what the value is
abbrev pub beside : {T R : Type 0} → declared.State.State → (T → R) → Meaning T (Machine × R)
beside s part units x = (machine_of s units, part x)

-- how a command ends, with the state that it leaves
abbrev pub course_of : declared.State.State → Meaning declared.Course.Course Course
course_of s units (course.Went code) = Went (machine_of s units) code
course_of s units course.OutOfTurns = OutOfTurns

-- ---- calls

-- a call did all of its tree, or was cut off in it
abbrev pub Plays : {R T : Type 0} → Point → Point → Act R → Result T End → (T → R) → Type 0
Plays p q t (Ok x) done = Ran p q t (Done (done x))
Plays p q t (Err e) done = Broke p q t

-- what a call of the console or the clock makes of a point: all else stays
abbrev pub after_world : Point → Seen → Point
after_world p now = record p { journal = now.told }

-- what is said of every call of the console or the clock alone
pub record Does {R T : Type 0} (before now : Seen) (t : Act R) (result : Result T End) (done : T → R) : Type 0 where
  -- from each point of the journal, whichever its count, it did its tree, or was cut off in it
  pub each : (p : Point) → p.journal ≡ before.told → Plays p (after_world p now) t result done
  -- nothing happened to any unit
  pub idle : Idle before.told now.told
  pub faults : now.faults ≡ before.faults
  -- the other count hasn't fallen, and rose where the call was cut off at an edge
  pub edges : before.edges ≤ now.edges
  pub cause : IfErr result (λ e. e ≡ Edge → Rose before.edges now.edges)

-- a call did its tree, or was cut off in it; either way the units are held behind it
abbrev pub Ends : {R T : Type 0} {objects : List Object} → Point → SpotWith objects → Act R → Result T End → Meaning T R → Type 0
Ends p new t (Ok x) done = (units : List Slot) × (holds new units × Ran p (at new units) t (Done (done units x)))
Ends p new t (Err e) done = (units : List Slot) × (holds new units × Broke p (at new units) t)

-- what is said of every call on the session's state; a command leaves the session without objects, as it found it
pub record Acts {R T : Type 0} {before after : List Object} (old : SpotWith before) (new : SpotWith after) (t : List Slot → Act R)
    (result : Result T End) (done : Meaning T R) : Type 0 where
  -- on whichever units the machine holds it did its tree, or was cut off in it
  pub each : (units : List Slot) → holds old units → Ends (at old units) new (t units) result done
  -- the journal has grown, and no count has fallen
  pub later : IsLater old.world new.world
  -- the units may be used as before, also where the call was cut off
  pub usable : IsUsable old → IsUsable new
  -- the count of edges rose where the call was cut off at one
  pub cause : IfErr result (λ e. e ≡ Edge → Rose old.world.edges new.world.edges)

-- a part of such a call: its tree has come so far
pub record Comes {R : Type 0} {before after : List Object} (old : SpotWith before) (mid : SpotWith after) (t next : List Slot → Act R) : Type 0 where
  pub each : (units : List Slot) → holds old units → (now : List Slot) × (holds mid now
      × Ran (at old units) (at mid now) (t units) (next now))
  pub later : IsLater old.world mid.world
  pub usable : IsUsable old → IsUsable mid

-- the result is the tree's
abbrev pub itself : {R : Type 0} → R → R
itself x = x

-- the tree only says something
abbrev pub said : {T : Type 0} → T → ⊤
said x = tt

-- ---- refusals

-- a message that is typed with its code, as the last thing of a command
abbrev pub refusal_tree : declared.State.State → Message → ℤ → List Slot → Act Course
refusal_tree s message code units = Out (typed_line (message_text message)) (Done (Went (machine_of s units) code))

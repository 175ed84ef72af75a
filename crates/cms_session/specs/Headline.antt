-- The headline: a session on units is a run of the machine.
use Rattle.std.specs.Prelude.{◌≡◌, ℕ, ℤ, false, ◌||◌, List, [], ◌∷◌, ◌++◌, length, map, replicate, slice_get, Option, Some, None, is_some}
use Rattle.std.specs.FinMap.{empty}
use Rattle.cms_journal.specs.declared.event.Event.{Event}
use Rattle.cms_journal.specs.declared.event.Event.TheVariants.{Read}
use Rattle.cms_journal.specs.declared.event.Attached.{Attached}
use Rattle.cms_journal.specs.Causes.{Rose, Counted}
use Rattle.cms_journal.specs.Journal.{Journal}
use Rattle.cms_journal.specs.Told.{Told, plus, typed, script, is_over, moments}
use Rattle.cms_fields.specs.Moments.{first_moment}
use Rattle.cms_model.specs.Trees.{image_of}
use Rattle.cms_model.specs.Minidisks.{State}
use Rattle.cms_model.specs.Volumes.{disk_of, state_of}
use Rattle.cms_model.specs.Slots.{Slot, Settled, state_in, set_of, unit_set, IsAmong}
use Rattle.cms_model.specs.Steps.{Outcome, faults_in}
use Rattle.cms_model.specs.Acts.{Act}
use Rattle.cms_model.specs.Acts as acts
use Rattle.cms_model.specs.LawsObjects.{AreDistinct}
use Rattle.cms_model.specs.Objects.{Back, Object}
use Rattle.cms_model.specs.Traces.{bytes_of, turns_of, last_set, At, AreOnes, Within}
use Rattle.cms_model.specs.Feeds.{Fed, Over, Waits, WaitsBehind}
use Rattle.cms_model.specs.Points.{Leaves, HasNow, Point}
use Rattle.cms_model.specs.Beats.{AreWellOn, Beat, backs, outcomes, pieces}
use Rattle.cms_model.specs.Runs.{Broke, Ran, events_of}
use Rattle.cms_search.specs.Machine.{Machine}
use Rattle.cms_line.specs.ConsoleState.{Console}
use Rattle.cms_world.specs.Seen.{Seen}
use Rattle.cms_search.specs.declared.state.Device.{Device}
use Rattle.cms_ext.specs.Extensions.{Desk, desk}
use Rattle.cms_session.specs.Machine.{machine, started}
use Rattle.cms_session.specs.declared.state.Finish.{Finish}
use Rattle.cms_session.specs.declared.state.Finish.TheVariants as finish
use Rattle.cms_session.specs.declared.status.Status.{Status}
use Rattle.cms_session.specs.declared.status.Status.TheVariants.{Done, Usage, Memory, World, Turns}

-- ---- the start

-- units are attached, and nothing happened
abbrev pub fresh : List Attached → Journal
fresh units = record { units = units; events = [] }

-- the machine's units: each is settled at the state of its starting blocks
abbrev pub settled : List Attached → List Slot
settled units = map (λ unit. Settled (state_of (disk_of unit) (image_of unit.start))) units

-- how a session starts: its units and their devices, the turns, by how many seconds civil time is ahead of UTC, a script that is given
-- in place of the world's, the count of device faults, and the objects that it was handed
pub record Start : Type 0 where
  pub units : List Attached
  pub devices : List Device
  pub turns : ℕ
  pub offset : ℤ
  pub given : Option (List ℕ)
  pub faults : ℕ
  pub objects : List Object

-- the bytes of a script that is given
abbrev pub given_bytes : Option (List ℕ) → List ℕ
given_bytes None = []
given_bytes (Some bytes) = bytes

-- nothing of the world's script was read; a script that is given is read, and ended
abbrev pub first_console : Option (List ℕ) → Console
first_console given = record { unread = record { within = 0; bytes = given_bytes given }; ended = is_some given }

-- a point of the journal at which nothing of the script was taken
abbrev pub first_point : Told → ℕ → List Slot → Option (List ℕ) → List Object → Point
first_point told faults units given objects = record {
  journal = told;
  faults = faults;
  units = units;
  unread = (first_console given).unread;
  ended = (first_console given).ended;
  objects = objects;
}

-- the machine with no turn spent, no disk accessed, no line stacked and no place kept
abbrev pub first_machine : List Slot → List Device → ℤ → ℕ → Machine
first_machine units devices offset turns = record {
  units = units;
  devices = devices;
  letters = replicate 26 None;
  stack = [];
  places = empty;
  offset = offset;
  moment = first_moment;
  left = turns;
}

-- the point at which a session starts
abbrev pub start_point : Start → Point
start_point s = first_point (Some (fresh s.units)) s.faults (settled s.units) s.given s.objects

-- the desk there: the first machine, beside the objects that were handed in
abbrev pub start_desk : Start → Desk
start_desk s = desk (first_machine (settled s.units) s.devices s.offset s.turns) s.objects

-- what a session does from its start
abbrev pub start_tree : Start → Act Finish
start_tree s = started (start_desk s)

-- the machine on what these events told
abbrev pub run_on : Start → List Event → List Outcome → List Back → Fed Finish
run_on s events os bs = machine (start_desk s) (given_bytes s.given ++ script events) (is_some s.given || is_over events)
    (moments events) os bs

-- the machine where the script goes on behind these bytes
abbrev pub run_before : Start → List ℕ → List Event → List Outcome → List Back → Fed Finish
run_before s bytes events os bs = machine (start_desk s) (given_bytes s.given ++ bytes) false (moments events) os bs

-- ---- the end

-- the machine came to this end with these units: all bytes of its trace are typed, each of its turns has a moment, the sets of its units are
-- the last of the trace, and a crash leaves each unit in a state of its set
pub record Came (s : Start) (events : List Event) (os : List Outcome) (bs : List Back) (units : List Slot) (end : Finish) : Type 0 where
  pub close : (run_on s events os bs).close ≡ Over end
  pub bytes : bytes_of (run_on s events os bs).trace ≡ typed events
  pub turns : turns_of (run_on s events os bs).trace ≡ length (moments events)
  pub sets : (u : ℕ) → unit_set units u ≡ last_set u (unit_set (settled s.units) u) (run_on s events os bs).trace
  pub states : (u : ℕ) (x : State) → Leaves (plus (Some (fresh s.units)) events) u x
      → IsAmong x (last_set u (unit_set (settled s.units) u) (run_on s events os bs).trace)

-- the bytes typed are the first of the machine's
abbrev pub Begins : List Event → Fed Finish → Type 0
Begins events fed = (more : List ℕ) × (typed events ++ more ≡ bytes_of fed.trace)

-- the status tells the machine's end, or where the session was cut off; edges are the counts before and now
abbrev pub EndsAs : Start → List Event → List Outcome → List Back → List Slot → ℕ → ℕ → Status → Type 0
EndsAs s events os bs units before now Done = Came s events os bs units finish.AtEnd
EndsAs s events os bs units before now Turns = Came s events os bs units finish.AtTurns
EndsAs s events os bs units before now World = Begins events (run_on s events os bs) × Rose before now
EndsAs s events os bs units before now Memory = Begins events (run_on s events os bs)
EndsAs s events os bs units before now (Usage fault) = ⊥

-- in the end a unit is as its slot says: a crash leaves it in the state at which it is settled, or in one of the two of its doubt, and
-- its contents have that state, or that of the doubt's side
pub record IsAs (told : Told) (u : ℕ) (slot : Slot) : Type 0 where
  pub crash : (x : State) → Leaves told u x → IsAmong x (set_of slot)
  pub now : (x : State) → HasNow told u x → state_in slot ≡ x

-- ---- the run

-- what the machine did from a start, where a session ended so: all of it, to that end; or, at a failure of the world or of memory, as far
-- as it was cut off
abbrev pub RunTo : Start → Point → Status → Type 0
RunTo s last Done = Ran (start_point s) last (start_tree s) (acts.Done finish.AtEnd)
RunTo s last Turns = Ran (start_point s) last (start_tree s) (acts.Done finish.AtTurns)
RunTo s last World = Broke (start_point s) last (start_tree s)
RunTo s last Memory = Broke (start_point s) last (start_tree s)
RunTo s last (Usage fault) = ⊥

-- its beats
abbrev pub beats_in : (s : Start) (last : Point) (status : Status) → RunTo s last status → List Beat
beats_in s last Done ran = ran.beats
beats_in s last Turns ran = ran.beats
beats_in s last World broke = broke.ran.beats
beats_in s last Memory broke = broke.ran.beats
beats_in s last (Usage fault) none = []

-- the point behind them
abbrev pub behind_beats : (s : Start) (last : Point) (status : Status) → RunTo s last status → Point
behind_beats s last Done ran = last
behind_beats s last Turns ran = last
behind_beats s last World broke = broke.mid
behind_beats s last Memory broke = broke.mid
behind_beats s last (Usage fault) none = last

-- all its events: the pieces of the beats, and what happened of the deed in which it was cut off
abbrev pub events_in : (s : Start) (last : Point) (status : Status) → RunTo s last status
    → List Event
events_in s last Done ran = pieces ran.beats
events_in s last Turns ran = pieces ran.beats
events_in s last World broke = events_of broke
events_in s last Memory broke = events_of broke
events_in s last (Usage fault) none = []

-- a run of the machine, the whole one where the session came to an end, has these events, these outcomes of its steps, and these answers
-- from the objects, each by the test of the very object that was asked; behind it the machine has these units
pub record Agrees (s : Start) (events : List Event) (os : List Outcome) (bs : List Back)
    (units : List Slot) (status : Status) :
    Type 0 where
  pub last : Point
  pub run : RunTo s last status
  pub events_are : events_in s last status run ≡ events
  pub outcomes_are : outcomes (beats_in s last status run) ≡ os
  pub backs_are : backs (beats_in s last status run) ≡ bs
  pub units_are : last.units ≡ units

-- ---- all of it

-- a session from a start is a run of the machine on the script and the moments told
pub record Headline (s : Start) (before now : Seen) (status : Status) : Type 0 where
  -- what happened, the oldest event first
  pub events : List Event
  pub told : now.told ≡ plus (Some (fresh s.units)) events
  -- the places and kinds of the faults, and what came back from the objects, are all that is left open
  pub outcomes : List Outcome
  pub backs : List Back
  pub counted : Counted before.faults (faults_in outcomes) now.faults
  -- what the machine knows of the units in the end, also where the session was cut off
  pub units : List Slot
  pub agrees : Agrees s events outcomes backs units status
  pub ends : EndsAs s events outcomes backs units before.edges now.edges status
  -- no two objects were handed in under one word
  pub distinct : AreDistinct s.objects
  pub units_there : length units ≡ length s.units
  pub stands : (u : ℕ) (slot : Slot) → slice_get units u ≡ Some slot → IsAs now.told u slot
  -- a crash at any moment leaves a state that the machine has there, after the bytes typed and the turns spent by then
  pub crash :
      (front rest : List Event) → front ++ rest ≡ events → (u : ℕ) (x : State) → Leaves (plus (Some (fresh s.units)) front) u x
      → Within (run_on s events outcomes backs).trace (length (typed front)) (length (moments front)) u (unit_set (settled s.units) u) x
  -- so it is between the last byte typed by then and the next
  pub between :
      (front rest : List Event) → front ++ rest ≡ events → (u : ℕ) (x : State) → Leaves (plus (Some (fresh s.units)) front) u x
      → At (run_on s events outcomes backs).trace (length (typed front)) u (unit_set (settled s.units) u) x
  -- of a unit that no faulted step touches the machine says one state at a time
  pub untouched : (u : ℕ) → AreWellOn u (beats_in s agrees.last status agrees.run)
      → AreOnes u (run_on s events outcomes backs).trace
  -- at each read the machine waits for the script, and all its bytes are typed
  pub waits : (front rest : List Event) (bytes : List ℕ) → front ++ Read bytes ∷ rest ≡ events
      → Waits (run_before s (script front) front outcomes backs) (typed front)
  -- no read comes where the script is given
  pub given : (front rest : List Event) (bytes : List ℕ) → front ++ Read bytes ∷ rest ≡ events → s.given ≡ None
  -- so it does on a front of the script told by then, as that up to its last line feed
  pub waits_before :
      (front rest : List Event) (bytes : List ℕ) → front ++ Read bytes ∷ rest ≡ events → (early later : List ℕ)
      → early ++ later ≡ script front
      → WaitsBehind (run_before s early front outcomes backs) (typed front)

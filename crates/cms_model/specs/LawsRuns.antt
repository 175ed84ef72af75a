-- What follows of all beats and all runs.
use Rattle.std.specs.Prelude.{◌≡◌, ℕ, ◌≤◌, ℤ, Bool, true, false, List, ◌∷◌, ◌++◌, length, Some}
use Rattle.cms_journal.specs.declared.event.Event.{Event}
use Rattle.cms_journal.specs.declared.event.Event.TheVariants.{Read}
use Rattle.cms_journal.specs.Causes.{Counted}
use Rattle.cms_journal.specs.Told.{plus, typed, script, moments}
use Rattle.cms_model.specs.Minidisks.{File, State}
use Rattle.cms_model.specs.Slots.{Side, Slot, Settled, Doubt, state_in, set_of, unit_set, IsAmong}
use Rattle.cms_model.specs.Steps.{Get, Access, Outcome, ReadFault, IsOutcome, new_slot, faults_in}
use Rattle.cms_model.specs.Items.{extended, items, Goes}
use Rattle.cms_model.specs.Acts.{Act, Done, bind}
use Rattle.cms_model.specs.Traces.{TraceItem, bytes_of, turns_of, last_set, At, AreOnes, Within}
use Rattle.cms_model.specs.Feeds.{Over, feed, prepend, Waits, WaitsBehind}
use Rattle.cms_model.specs.Points.{Leaves, Point, Sound}
use Rattle.cms_model.specs.Objects.{Back}
use Rattle.cms_model.specs.Beats.{Beat, pieces, trace, outcomes, backs, AreWellOn, Chain, Leads}
use Rattle.cms_model.specs.Runs.{Ran, Broke, events_of, fed}

-- ---- beats, from a point where a crash leaves each unit in a state of its set

-- a crash at any moment leaves a state within the trace, after the bytes typed and the turns spent by then; so it is however the
-- trace goes on
abbrev pub CrashesWithin : Type 0
CrashesWithin =
    (p q : Point) (bs : List Beat) → Chain p bs q → Sound p → (front rest : List Event) → front ++ rest ≡ pieces bs
    → (u : ℕ) (x : State) → Leaves (plus p.journal front) u x → (more : List TraceItem)
    → Within (trace bs ++ more) (length (typed front)) (length (moments front)) u (unit_set p.units u) x

-- what is within two marks is at the first of them
abbrev pub WithinIsAt : Type 0
WithinIsAt = (tr : List TraceItem) (t n u : ℕ) (set : List State) (x : State) → Within tr t n u set x → At tr t u set x

-- behind the beats a crash leaves each unit in a state of its set again, and its contents have the state of its slot
abbrev pub KeepSound : Type 0
KeepSound = (p q : Point) (bs : List Beat) → Chain p bs q → Sound p → Sound q

-- what beats add up to: their pieces are the journal, their faults are counted, the sets are the last of their trace, its bytes
-- are those typed, each of its turns has a moment, and the machine has as many units as before
pub record AddsUp (p q : Point) (bs : List Beat) : Type 0 where
  pub journal : q.journal ≡ plus p.journal (pieces bs)
  pub faults : Counted p.faults (faults_in (outcomes bs)) q.faults
  pub sets : (u : ℕ) → unit_set q.units u ≡ last_set u (unit_set p.units u) (trace bs)
  pub bytes : bytes_of (trace bs) ≡ typed (pieces bs)
  pub turns : turns_of (trace bs) ≡ length (moments (pieces bs))
  pub as_many : length q.units ≡ length p.units

-- what the beats of a chain added is what the point behind it has more
abbrev pub AddUp : Type 0
AddUp = (p q : Point) (bs : List Beat) → Chain p bs q → AddsUp p q bs

-- ---- runs that are joined

-- a run that comes to a tree within a larger one, and a run of that to its result, are one run
abbrev pub RunsJoin : Type 0 → Type 0 → Type 0
RunsJoin A R = (p m q : Point) (t : Act R) (s : Act A) (f : A → Act R) (a : A) → Ran p m t (bind s f) → Ran m q s (Done a) → Ran p q t (f a)

-- the same where the second is cut off
abbrev pub StopsJoin : Type 0 → Type 0 → Type 0
StopsJoin A R = (p m q : Point) (t : Act R) (s : Act A) (f : A → Act R) → Ran p m t (bind s f) → Broke m q s → Broke p q t

-- beats that lead through a tree lead through it within a larger one
abbrev pub LeadsWithin : Type 0 → Type 0 → Type 0
LeadsWithin A R = (t u : Act A) (bs : List Beat) (f : A → Act R) → Leads t bs u → Leads (bind t f) bs (bind u f)

-- ---- the machine: a tree on what was told

-- on what beats took, and more, it shows their trace, and goes on as the rest of the tree
abbrev pub FeedsBeats : Type 0 → Type 0
FeedsBeats R =
    (t u : Act R) (p q : Point) (bs : List Beat) → Chain p bs q → Leads t bs u → (more : List ℕ) (over : Bool) → Goes q.ended more over
    → (ms : List ℤ) (os : List Outcome) (back : List Back)
    → feed t (items (extended p.unread (script (pieces bs) ++ more)) over) over (moments (pieces bs) ++ ms) (outcomes bs ++ os) (backs bs ++ back)
    ≡ prepend (trace bs) (feed u (items (extended q.unread more) over) over ms os back)

-- a run that was cut off is one of the machine on all that was told: what was told is the journal, the faults are counted, the
-- bytes typed are the first of the machine's, a crash at any moment leaves what is within its trace there, a read comes only where
-- it waits for the script, with all its bytes typed, and where the run was cut off a crash leaves each unit as the machine knows it
pub record FollowsTree {R : Type 0} (p q : Point) (t : Act R) (b : Broke p q t) (back : List Back) : Type 0 where
  pub journal : q.journal ≡ plus p.journal (events_of b)
  pub faults : Counted p.faults (faults_in (outcomes b.ran.beats)) q.faults
  pub bytes : (more : List ℕ) × (typed (events_of b) ++ more ≡ bytes_of (fed p t (events_of b) (outcomes b.ran.beats) back).trace)
  pub crash :
      Sound p → (front rest : List Event) → front ++ rest ≡ events_of b → (u : ℕ) (x : State) → Leaves (plus p.journal front) u x
      → Within (fed p t (events_of b) (outcomes b.ran.beats) back).trace (length (typed front)) (length (moments front)) u (unit_set p.units u) x
  -- of a unit that no faulted step touches one state is said at a time
  pub ones : (u : ℕ) → AreWellOn u b.ran.beats → AreOnes u (fed p t (events_of b) (outcomes b.ran.beats) back).trace
  pub sound : Sound p → Sound q
  pub as_many : length q.units ≡ length p.units
  pub waits :
      (front rest : List Event) (bytes : List ℕ) → front ++ Read bytes ∷ rest ≡ events_of b
      → Waits (feed t (items (extended p.unread (script front)) false) false (moments front) (outcomes b.ran.beats) back) (typed front)
  -- no read comes where the script had ended
  pub given : p.ended ≡ true → (front rest : List Event) (bytes : List ℕ) → front ++ Read bytes ∷ rest ≡ events_of b → ⊥
  -- and also on a front of the script told by then, as that up to its last line feed
  pub waits_before :
      (front rest : List Event) (bytes : List ℕ) → front ++ Read bytes ∷ rest ≡ events_of b → (early later : List ℕ)
      → early ++ later ≡ script front
      → WaitsBehind (feed t (items (extended p.unread early) false) false (moments front) (outcomes b.ran.beats) back) (typed front)

-- a run that was cut off is a front of the machine's
abbrev pub StopsFollow : Type 0 → Type 0
StopsFollow R = (p q : Point) (t : Act R) (b : Broke p q t) → FollowsTree p q t b (backs b.ran.beats)

-- a run to its result is one of the machine to that result: the machine's bytes are those typed, each of its turns has a moment,
-- and a crash leaves each unit in a state of its last set
pub record ComesTo {R : Type 0} (p q : Point) (t : Act R) (a : R) (ran : Ran p q t (Done a)) (back : List Back) : Type 0 where
  pub journal : q.journal ≡ plus p.journal (pieces ran.beats)
  pub close : (fed p t (pieces ran.beats) (outcomes ran.beats) back).close ≡ Over a
  pub bytes : bytes_of (fed p t (pieces ran.beats) (outcomes ran.beats) back).trace ≡ typed (pieces ran.beats)
  pub turns : turns_of (fed p t (pieces ran.beats) (outcomes ran.beats) back).trace ≡ length (moments (pieces ran.beats))
  pub sets : (u : ℕ) → unit_set q.units u ≡ last_set u (unit_set p.units u) (fed p t (pieces ran.beats) (outcomes ran.beats) back).trace
  pub states : Sound p → (u : ℕ) (x : State) → Leaves (plus p.journal (pieces ran.beats)) u x
      → IsAmong x (last_set u (unit_set p.units u) (fed p t (pieces ran.beats) (outcomes ran.beats) back).trace)

-- a whole run is the machine's, with its result
abbrev pub RunsCome : Type 0 → Type 0
RunsCome R = (p q : Point) (t : Act R) (a : R) (ran : Ran p q t (Done a)) → ComesTo p q t a ran (backs ran.beats)

-- ---- what is known of a unit

-- a read fails after no more records than were wanted
abbrev pub ReadsAreWanted : Type 0
ReadsAreWanted = (u : ℕ) (f : File) (wanted j : ℕ) → IsOutcome (Get u f wanted) (ReadFault j) → j ≤ wanted

-- an access that ends a doubt settles the unit at the state that its contents have
abbrev pub DoubtEndsNow : Type 0
DoubtEndsNow = (u : ℕ) (slot new : Slot) (o : Outcome) → new_slot (Access u slot) o ≡ Some new → new ≡ Settled (state_in slot)

-- of a unit that is settled, or is left as it was, the contents have one state, which a crash leaves too
abbrev pub SettledIsNow : Type 0
SettledIsNow = (state : State) (x : State) → IsAmong x (set_of (Settled state)) → x ≡ state_in (Settled state)

-- the contents of a unit in doubt have one of its two states
abbrev pub DoubtIsOfBoth : Type 0
DoubtIsOfBoth = (before after : State) (side : Side) → IsAmong (state_in (Doubt before after side)) (set_of (Doubt before after side))

-- What follows for every session.
use Rattle.std.specs.Prelude.{◌≡◌, ◌⊎◌, ℕ, List, ◌∷◌, ◌++◌, Some, slice_get}
use Rattle.cms_journal.specs.Causes.{Rose}
use Rattle.cms_journal.specs.declared.event.Event.{Event}
use Rattle.cms_model.specs.Steps.{faults_in}
use Rattle.cms_model.specs.Minidisks.{State}
use Rattle.cms_model.specs.Slots.{Settled}
use Rattle.cms_model.specs.Beats.{Asked, Beat, Chain, Dropped}
use Rattle.cms_model.specs.LawsObjects.{Answers, AskNot, IsGone}
use Rattle.cms_model.specs.Objects.{Back, Object, Reply}
use Rattle.cms_model.specs.Points.{Leaves, Point}
use Rattle.cms_model.specs.Feeds.{Over}
use Rattle.cms_world.specs.Seen.{Seen}
use Rattle.cms_session.specs.Headline.{Start, Agrees, Came, Headline, beats_in, behind_beats, run_on, start_point}
use Rattle.cms_session.specs.Sessions.{status_of}
use Rattle.cms_session.specs.declared.state.Finish.{Finish}
use Rattle.cms_session.specs.declared.state.Finish.TheVariants as finish
use Rattle.cms_session.specs.declared.status.Status.{Status}
use Rattle.cms_session.specs.declared.status.Status.TheVariants.{Done, Memory}

-- a session with memory, in which no call of the console, of the clock and of the attaching failed, ends as its machine does
abbrev pub EndsLikeMachine : Type 0
EndsLikeMachine =
    (s : Start) (before now : Seen) (status : Status) (h : Headline s before now status) → (Rose before.edges now.edges → ⊥)
    → (finish : Finish) → (run_on s h.events h.outcomes h.backs).close ≡ Over finish → (status ≡ status_of finish) ⊎ (status ≡ Memory)

-- where no call on a unit failed every outcome is good
abbrev pub FaultsAreCounted : Type 0
FaultsAreCounted =
    (s : Start) (before now : Seen) (status : Status) (h : Headline s before now status) → (Rose before.faults now.faults → ⊥)
    → faults_in h.outcomes ≡ 0

-- a session with memory, in which no call failed and whose machine comes to the script's end, says so: every outcome is good, the run is the
-- machine's whole one, all its bytes are typed, and each unit is in the machine's last state
abbrev pub Completes : Type 0
Completes =
    (s : Start) (before now : Seen) (status : Status) (h : Headline s before now status) → (Rose before.edges now.edges → ⊥)
    → (Rose before.faults now.faults → ⊥) → (run_on s h.events h.outcomes h.backs).close ≡ Over finish.AtEnd
    → (faults_in h.outcomes ≡ 0)
    × (((status ≡ Done) × Agrees s h.events h.outcomes h.backs h.units Done
    × Came s h.events h.outcomes h.backs h.units finish.AtEnd)
    ⊎ (status ≡ Memory))

-- at every status a crash leaves each unit that isn't in doubt in one state
abbrev pub SettledIsOne : Type 0
SettledIsOne =
    (s : Start) (before now : Seen) (status : Status) (h : Headline s before now status) (u : ℕ) (state : State)
    → slice_get h.units u ≡ Some (Settled state) → (x : State) → Leaves now.told u x → x ≡ state

-- the beats of a session, and those in front of one of them and behind it
abbrev pub BeatsOf : {s : Start} {before now : Seen} {status : Status} → Headline s before now status → List Beat
BeatsOf {s = s} {status = status} h = beats_in s h.agrees.last status h.agrees.run

-- these stand in front of the one and these behind it, and there are no others
abbrev pub SplitAt : {s : Start} {before now : Seen} {status : Status} → Headline s before now status → List Beat → Beat → List Beat → Type 0
SplitAt h front b rest = front ++ b ∷ rest ≡ BeatsOf h

-- the object that stood in a place behind these beats, where it is dropped: in the beats behind that none is asked under its word, and in
-- the end none stands there
pub record IsLost (s : Start) (front : List Beat) (n : ℕ) (rest : List Beat) (last : Point) : Type 0 where
  pub before : Point
  pub ran : Chain (start_point s) front before
  pub object : Object
  pub there : slice_get before.objects n ≡ Some object
  pub asked_no_more : AskNot object.word rest
  pub gone : IsGone object.word last.objects

-- so it is of each object that a beat of a session drops
abbrev pub DroppedIsLost : Type 0
DroppedIsLost =
    (s : Start) (before now : Seen) (status : Status) (h : Headline s before now status)
    → (front rest : List Beat) (n : ℕ) (piece : List Event) → SplitAt h front (record { deed = Dropped n; piece = piece }) rest
    → IsLost s front n rest (behind_beats s h.agrees.last status h.agrees.run)

-- an object that is asked stands in its place behind the beats in front; its own test holds of what it held there, what it was told, what came
-- back, and what it holds from then on
pub record IsItself (s : Start) (front : List Beat) (n : ℕ) (o : Object) (reply : Reply) (back : Back) : Type 0 where
  pub before : Point
  pub ran : Chain (start_point s) front before
  pub after : Point
  pub answers : Answers before after n o reply back

-- so it is of each object that a beat of a session asks
abbrev pub AskedIsItself : Type 0
AskedIsItself =
    (s : Start) (before now : Seen) (status : Status) (h : Headline s before now status)
    → (front rest : List Beat) (n : ℕ) (o : Object) (reply : Reply) (back : Back) (piece : List Event)
    → SplitAt h front (record { deed = Asked n o reply back; piece = piece }) rest → IsItself s front n o reply back

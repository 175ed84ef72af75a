-- Beats: each a single thing that was done, with its piece of the journal, the oldest event first.
use Rattle.std.specs.Prelude.{◌≡◌, ◌⊎◌, ℕ, suc, ℤ, ◌<◌, true, length, remove, set, List, [], ◌∷◌, ◌++◌, take, drop, Option, Some, None, slice_get, ⊤}
use Rattle.std.specs.List.{AllByRecursion}
use Rattle.cms_journal.specs.declared.event.Event.{Event}
use Rattle.cms_journal.specs.declared.event.Event.TheVariants.{Read, Now, Typed, Wrote, Synced}
use Rattle.cms_journal.specs.Causes.{Counted}
use Rattle.cms_journal.specs.Told.{Told, plus, typed, syncs}
use Rattle.cms_fields.specs.Stamps.{stamp_bytes, stamp_flags}
use Rattle.cms_fields.specs.declared.time.Stamp.{Stamp}
use Rattle.cms_model.specs.Minidisks.{State}
use Rattle.cms_model.specs.Slots.{Slot, unit_set, unit_state, IsAmong}
use Rattle.cms_model.specs.Steps.{Step, Outcome, Good, unit_of, IsOutcome, IsOf, WritesFew, sync_count, stamp_in, units_after, faults_in}
use Rattle.cms_model.specs.Items.{Item, Takes}
use Rattle.cms_model.specs.Objects.{Back, Object, Reply, answered, may_answer}
use Rattle.cms_model.specs.Acts.{Act, Out, Take, Turn, Does, Asks, Drops}
use Rattle.cms_model.specs.Traces.{TraceItem, Shown, Spent, added}
use Rattle.cms_model.specs.Points.{Leaves, HasNow, Point, Sound}

-- bytes were typed; a turn was spent, with these seconds; an item was taken, or the script's end was found; a step was done; the object
-- in a place was asked, and this came back; it was dropped
pub data Deed : Type 0 where
  Said : List ℕ → Deed
  Turned : ℤ → Deed
  Took : Option Item → Deed
  Did : Step → Outcome → Deed
  Asked : ℕ → Object → Reply → Back → Deed
  Dropped : ℕ → Deed

-- a deed with the events that it added to the journal
pub record Beat : Type 0 where
  pub deed : Deed
  pub piece : List Event

-- the pieces one after another
abbrev pub pieces : List Beat → List Event
pieces [] = []
pieces (b ∷ bs) = b.piece ++ pieces bs

-- what a deed adds to the trace
abbrev pub shown_by : Deed → List TraceItem
shown_by (Said b) = Shown b ∷ []
shown_by (Turned m) = Spent ∷ []
shown_by (Took i) = []
shown_by (Did s o) = added s o
shown_by (Asked n o r b) = []
shown_by (Dropped n) = []

-- the trace of beats
abbrev pub trace : List Beat → List TraceItem
trace [] = []
trace (b ∷ bs) = shown_by b.deed ++ trace bs

-- the outcome of a deed that is a step
abbrev pub outcome_of : Deed → List Outcome
outcome_of (Said b) = []
outcome_of (Turned m) = []
outcome_of (Took i) = []
outcome_of (Did s o) = o ∷ []
outcome_of (Asked n o r b) = []
outcome_of (Dropped n) = []

-- the outcomes of their steps
abbrev pub outcomes : List Beat → List Outcome
outcomes [] = []
outcomes (b ∷ bs) = outcome_of b.deed ++ outcomes bs

-- what an object gave back where a deed asked it
abbrev pub back_of : Deed → List Back
back_of (Said b) = []
back_of (Turned m) = []
back_of (Took i) = []
back_of (Did s o) = []
back_of (Asked n o r b) = b ∷ []
back_of (Dropped n) = []

-- what came back in them
abbrev pub backs : List Beat → List Back
backs [] = []
backs (b ∷ bs) = back_of b.deed ++ backs bs

-- no step of this unit had a fault
abbrev pub IsWellOn : ℕ → Deed → Type 0
IsWellOn u (Did s o) = unit_of s ≡ u → o ≡ Good
IsWellOn u d = ⊤

-- nor had one of the beats
abbrev pub AreWellOn : ℕ → List Beat → Type 0
AreWellOn u bs = AllByRecursion (λ b. IsWellOn u b.deed) bs

-- ---- the events that a piece may have

-- the event is bytes typed, or bytes of the script read
abbrev pub IsTyped : Event → Type 0
IsTyped (Typed b) = ⊤
IsTyped e = ⊥

-- the event is bytes of the script read
abbrev pub IsRead : Event → Type 0
IsRead (Read b) = ⊤
IsRead e = ⊥

-- the event is a write, or a sync of this unit
abbrev pub IsDiskOf : ℕ → Event → Type 0
IsDiskOf u (Wrote v k bytes) = ⊤
IsDiskOf u (Synced v) = v ≡ u
IsDiskOf u e = ⊥

-- the events are all such
abbrev pub OnlyTyped : List Event → Type 0
OnlyTyped es = AllByRecursion IsTyped es

-- all events are reads of the script
abbrev pub OnlyRead : List Event → Type 0
OnlyRead es = AllByRecursion IsRead es

-- all events are writes, or syncs of this unit
abbrev pub OnlyDisk : ℕ → List Event → Type 0
OnlyDisk u es = AllByRecursion (IsDiskOf u) es

-- how many blocks a piece writes
abbrev pub written_count : List Event → ℕ
written_count [] = 0
written_count (Wrote v k bytes ∷ es) = suc (written_count es)
written_count (e ∷ es) = written_count es

-- a directory's first block has this stamp in its own entry and in the allocation map's, each of 64 bytes: its date and its century
pub record HasStamp (bytes : List ℕ) (stamp : Stamp) : Type 0 where
  pub directory : take 6 (drop 54 bytes) ≡ stamp_bytes stamp
  pub directory_flags : take 1 (drop 31 bytes) ≡ stamp_flags stamp ∷ []
  pub map : take 6 (drop 118 bytes) ≡ stamp_bytes stamp
  pub map_flags : take 1 (drop 95 bytes) ≡ stamp_flags stamp ∷ []

-- a directory begins in block 4 or 5: such a block is written with this stamp, where there is one, and not else
abbrev pub MayWrite : Option Stamp → ℕ → List ℕ → Type 0
MayWrite None block bytes = (block ≡ 4) ⊎ (block ≡ 5) → ⊥
MayWrite (Some stamp) block bytes = (block ≡ 4) ⊎ (block ≡ 5) → HasStamp bytes stamp

-- so is each that is written of this unit
abbrev pub IsStamped : ℕ → Option Stamp → Event → Type 0
IsStamped u stamp (Wrote v block bytes) = v ≡ u → MayWrite stamp block bytes
IsStamped u stamp e = ⊤

-- each directory that is begun on this unit has this stamp
abbrev pub AreStamped : ℕ → Option Stamp → List Event → Type 0
AreStamped u stamp es = AllByRecursion (IsStamped u stamp) es

-- a step makes writes, with its stamp and no more of them than it may, and as many syncs of its unit as its outcome says; the outcome is
-- one that it may have
pub record FitsStep (s : Step) (o : Outcome) (es : List Event) : Type 0 where
  pub disk : OnlyDisk (unit_of s) es
  pub synced : syncs es ≡ sync_count s o
  pub stamped : AreStamped (unit_of s) (stamp_in s) es
  pub few : WritesFew s o (written_count es)
  pub outcome : IsOutcome s o

-- a deed may have this piece
abbrev pub Fits : Deed → List Event → Type 0
Fits (Said b) es = OnlyTyped es × (typed es ≡ b)
Fits (Turned m) es = es ≡ Now m ∷ []
Fits (Took i) es = OnlyRead es
Fits (Did s o) es = FitsStep s o es
Fits (Asked n o r b) es = (es ≡ []) × (may_answer o r b ≡ true)
Fits (Dropped n) es = es ≡ []

-- ---- the console

-- nothing was taken
pub record KeepsConsole (p m : Point) : Type 0 where
  pub unread : m.unread ≡ p.unread
  pub ended : m.ended ≡ p.ended

-- what a deed does to the script that was read
abbrev pub OnConsole : Deed → List Event → Point → Point → Type 0
OnConsole (Said b) es p m = KeepsConsole p m
OnConsole (Turned t) es p m = KeepsConsole p m
OnConsole (Took i) es p m = Takes p.unread p.ended es i m.unread m.ended
OnConsole (Did s o) es p m = KeepsConsole p m
OnConsole (Asked n o r b) es p m = KeepsConsole p m
OnConsole (Dropped n) es p m = KeepsConsole p m

-- ---- the units

-- a deed speaks of the units as they are
abbrev pub SpeaksOf : Deed → List Slot → Type 0
SpeaksOf (Said b) units = ⊤
SpeaksOf (Turned m) units = ⊤
SpeaksOf (Took i) units = ⊤
SpeaksOf (Did s o) units = IsOf s (slice_get units (unit_of s))
SpeaksOf (Asked n o r b) units = ⊤
SpeaksOf (Dropped n) units = ⊤

-- the units after a deed
abbrev pub units_by : List Slot → Deed → List Slot
units_by units (Said b) = units
units_by units (Turned m) = units
units_by units (Took i) = units
units_by units (Did s o) = units_after units s o
units_by units (Asked n o r b) = units
units_by units (Dropped n) = units

-- ---- the objects

-- what a deed does to the objects: the one that was asked is there, and holds what came back; one that was dropped is gone
abbrev pub OnObjects : Deed → List Object → List Object → Type 0
OnObjects (Said b) old new = new ≡ old
OnObjects (Turned m) old new = new ≡ old
OnObjects (Took i) old new = new ≡ old
OnObjects (Did s o) old new = new ≡ old
OnObjects (Asked n o r b) old new = (slice_get old n ≡ Some o) × (new ≡ set old n (answered o b))
OnObjects (Dropped n) old new = (n < length old) × (new ≡ remove old n)

-- a piece is covered, after the journal before it: a crash within it leaves the unit in a state of its set before or after the
-- beat, a crash behind it of the set after
pub record Covers (j : Told) (es : List Event) (u : ℕ) (before after : List State) : Type 0 where
  pub inside : (front rest : List Event) → front ++ rest ≡ es → (x : State) → Leaves (plus j front) u x → IsAmong x before ⊎ IsAmong x after
  pub whole : (x : State) → Leaves (plus j es) u x → IsAmong x after

-- ---- runs of beats

-- a beat leads from a point to a point
pub record Beats (p : Point) (b : Beat) (m : Point) : Type 0 where
  pub journal : m.journal ≡ plus p.journal b.piece
  pub faults : Counted p.faults (faults_in (outcome_of b.deed)) m.faults
  pub fits : Fits b.deed b.piece
  pub console : OnConsole b.deed b.piece p m
  pub speaks : SpeaksOf b.deed p.units
  pub units : m.units ≡ units_by p.units b.deed
  pub objects : OnObjects b.deed p.objects m.objects
  pub covered : Sound p → (u : ℕ) → Covers p.journal b.piece u (unit_set p.units u) (unit_set m.units u)
  -- behind it the contents of each unit have the state of its slot
  pub now : Sound p → (u : ℕ) (x : State) → HasNow m.journal u x → unit_state m.units u ≡ Some x

-- beats lead one after another from a point to a point
abbrev pub Chain : Point → List Beat → Point → Type 0
Chain p [] q = p ≡ q
Chain p (b ∷ bs) q = (m : Point) × Beats p b m × Chain m bs q

-- the tree's next deed, and the rest of the tree
abbrev pub Next : {R : Type 0} → Act R → Deed → Act R → Type 0
Next (Out b t) (Said c) u = (c ≡ b) × (u ≡ t)
Next (Take k) (Took i) u = u ≡ k i
Next (Turn k) (Turned m) u = u ≡ k m
Next (Does s k) (Did r o) u = (r ≡ s) × (u ≡ k o)
Next (Asks n o r k) (Asked m p q b) u = (m ≡ n) × (p ≡ o) × (q ≡ r) × (u ≡ k b)
Next (Drops n t) (Dropped m) u = (m ≡ n) × (u ≡ t)
Next _ _ u = ⊥

-- the deeds of the beats are those of the tree, up to the rest of it
abbrev pub Leads : {R : Type 0} → Act R → List Beat → Act R → Type 0
Leads t [] u = t ≡ u
Leads {R} t (b ∷ bs) u = (v : Act R) × Next t b.deed v × Leads v bs u

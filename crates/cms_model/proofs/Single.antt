-- A single deed as a run of its tree, and one that was cut off.
use Rattle.std.proofs.Common.{◌≡◌, ◌≢◌, inl, inr, ℕ, ℤ, ◌≤◌, List, [], ◌∷◌, ◌++◌, Option, Some, None, refl, ap, sym, ◌∙◌, subst, arith, slice_get}
use Rattle.std.specs.Prelude.{◌<◌, true, length, option_map, remove, set}
use Rattle.std.proofs.lemmas.Bool.Decides.{eqb_tells}
use Rattle.cms_journal.specs.declared.event.Event.{Event}
use Rattle.cms_journal.specs.declared.event.Event.TheVariants.{Now}
use Rattle.cms_journal.specs.Journal.{IsUntouched}
use Rattle.cms_journal.specs.Causes.{Counted}
use Rattle.cms_journal.specs.Told.{Told, plus, typed, syncs, IsOfUnit, OnlyOf}
use Rattle.cms_model.specs.Minidisks.{State}
use Rattle.cms_model.specs.Slots.{Slot, state_in, unit_set, unit_state, IsAmong}
use Rattle.cms_model.specs.Steps.{Step, Access, Get, Put, Wipe, Make, Outcome, Good, ReadFault, SyncFault, OldFault, EitherFault, unit_of, new_slot, put_slot, units_after, IsOutcome, IsOf, WritesFew, sync_count, faults_in}
use Rattle.cms_model.specs.Items.{Item, Lazy, Takes}
use Rattle.cms_model.specs.Objects.{Back, Object, Reply, answered, may_answer}
use Rattle.cms_model.specs.Acts.{Act, Out, Take, Turn, Does, Asks, Drops}
use Rattle.cms_model.specs.Points.{Leaves, HasNow, Point, with_events, Sound}
use Rattle.cms_model.specs.Beats.{Said, Turned, Took, Did, Asked, Dropped, OnlyTyped, OnlyRead, FitsStep, KeepsConsole, Covers, Beats}
use Rattle.cms_model.specs.Runs.{Ran, Begun, Broke, begun_syncs}
use Rattle.cms_model.proofs.Units.{other_slot}
use Rattle.cms_journal.proofs.Events.{all_front, of_aside}
use Rattle.cms_journal.proofs.Counts.{counted_none as not_counted}
use Rattle.cms_model.proofs.Aside.{typed_aside, read_aside, of_disk, leaves_aside, now_aside, covers_aside}
use Rattle.cms_model.proofs.Join.{ran_one, broke_now, part_none}

-- ---- deeds that know of no unit

same_sets : (p m : Point) (u : ℕ) → m.units ≡ p.units → unit_set m.units u ≡ unit_set p.units u
same_sets p m u same = ap (λ (units : List Slot). unit_set units u) same

-- the contents of each unit are as before
now_kept : (p m : Point) (es : List Event) → m.journal ≡ plus p.journal es → m.units ≡ p.units → ((u : ℕ) → IsUntouched es u) → Sound p → (u : ℕ) (x : State) → HasNow m.journal u x
    → unit_state m.units u ≡ Some x
now_kept p m es journal units aside sound u x has =
    let before : HasNow p.journal u x = now_aside p.journal es u x (aside u) (subst (λ (t : Told). HasNow t u x) journal has) in
    ap (λ (z : List Slot). unit_state z u) units ∙ sound.now u x before

-- bytes were typed
pub ran_out : {R : Type 0} (p m : Point) (b : List ℕ) (t : Act R) (es : List Event) → m.journal ≡ plus p.journal es → OnlyTyped es → typed es ≡ b → p.faults ≤ m.faults → m.units ≡ p.units
    → KeepsConsole p m → m.objects ≡ p.objects → Ran p m (Out b t) t
ran_out p m b t es journal only is later units console objects = ran_one p m (Out b t) t (record { deed = Said b; piece = es }) beat (refl, refl)
  where
    beat : Beats p (record { deed = Said b; piece = es }) m
    beat = record {
      journal = journal;
      faults = not_counted p.faults m.faults later;
      fits = (only, is);
      console = console;
      speaks = tt;
      units = units;
      objects = objects;
      covered = λ sound u. covers_aside p es u (unit_set m.units u) (typed_aside es u only) (same_sets p m u units) sound;
      now = now_kept p m es journal units (λ u. typed_aside es u only);
    }

-- a turn was spent
pub ran_turn : {R : Type 0} (p m : Point) (seconds : ℤ) (k : ℤ → Act R) → m.journal ≡ plus p.journal (Now seconds ∷ []) → p.faults ≤ m.faults → m.units ≡ p.units → KeepsConsole p m → m.objects ≡ p.objects
    → Ran p m (Turn k) (k seconds)
ran_turn p m seconds k journal later units console objects = ran_one p m (Turn k) (k seconds) (record { deed = Turned seconds; piece = Now seconds ∷ [] }) beat refl
  where
    beat : Beats p (record { deed = Turned seconds; piece = Now seconds ∷ [] }) m
    beat = record {
      journal = journal;
      faults = not_counted p.faults m.faults later;
      fits = refl;
      console = console;
      speaks = tt;
      units = units;
      objects = objects;
      covered = λ sound u. covers_aside p (Now seconds ∷ []) u (unit_set m.units u) (tt, tt) (same_sets p m u units) sound;
      now = now_kept p m (Now seconds ∷ []) journal units (λ u. (tt, tt));
    }

-- an item was taken, or the script's end was found
pub ran_take : {R : Type 0} (p m : Point) (i : Option Item) (k : Option Item → Act R) (es : List Event) → m.journal ≡ plus p.journal es → OnlyRead es → p.faults ≤ m.faults → m.units ≡ p.units
    → Takes p.unread p.ended es i m.unread m.ended → m.objects ≡ p.objects → Ran p m (Take k) (k i)
ran_take p m i k es journal only later units takes objects = ran_one p m (Take k) (k i) (record { deed = Took i; piece = es }) beat refl
  where
    beat : Beats p (record { deed = Took i; piece = es }) m
    beat = record {
      journal = journal;
      faults = not_counted p.faults m.faults later;
      fits = only;
      console = takes;
      speaks = tt;
      units = units;
      objects = objects;
      covered = λ sound u. covers_aside p es u (unit_set m.units u) (read_aside es u only) (same_sets p m u units) sound;
      now = now_kept p m es journal units (λ u. read_aside es u only);
    }

-- only a part of the bytes was typed
pub broke_out : {R : Type 0} (p q : Point) (b : List ℕ) (t : Act R) (es : List Event) (more : List ℕ) → q.journal ≡ plus p.journal es → OnlyTyped es → typed es ++ more ≡ b → p.faults ≤ q.faults
    → q.units ≡ p.units → Broke p q (Out b t)
broke_out p q b t es more journal only is later units = broke_now es (only, (more, is)) journal later units

-- it was read, and nothing could be taken
pub broke_take : {R : Type 0} (p q : Point) (k : Option Item → Act R) (es : List Event) → q.journal ≡ plus p.journal es → OnlyRead es → Lazy p.unread p.ended es → p.faults ≤ q.faults
    → q.units ≡ p.units → Broke p q (Take k)
broke_take p q k es journal only lazy later units = broke_now es (only, lazy) journal later units

-- nothing was done
pub broke_before : {R : Type 0} (p q : Point) (t : Act R) → q.journal ≡ p.journal → p.faults ≤ q.faults → q.units ≡ p.units → Broke p q t
broke_before p q t journal later units = broke_now [] (part_none p t) journal later units

-- ---- device steps

-- another unit keeps its set
pub other_set : (units : List Slot) (v u : ℕ) (new : Option Slot) → v ≢ u → unit_set (put_slot units v new) u ≡ unit_set units u
other_set units v u new other = let g = other_slot units v u new other in rw g refl

-- a step whose events are all of its own unit is covered where it is for that unit
pub covers_step : (p m : Point) (s : Step) (o : Outcome) (es : List Event) → OnlyOf (unit_of s) es → m.units ≡ units_after p.units s o → Sound p
    → Covers p.journal es (unit_of s) (unit_set p.units (unit_of s)) (unit_set m.units (unit_of s)) → (u : ℕ) → Covers p.journal es u (unit_set p.units u) (unit_set m.units u)
covers_step p m s o es only units sound own u = elim (eqb_tells (unit_of s) u) [
  | inl same ↦ subst (λ (v : ℕ). Covers p.journal es v (unit_set p.units v) (unit_set m.units v)) same.1 own
  | inr other ↦ covers_aside p es u (unit_set m.units u) (of_aside (unit_of s) es u other.1 only)
      (ap (λ (z : List Slot). unit_set z u) units ∙ other_set p.units (unit_of s) u (new_slot s o) other.1) sound
]

-- behind it the contents of its own unit have the state of its slot
abbrev pub OwnNow : Point → ℕ → Type 0
OwnNow m u = (x : State) → HasNow m.journal u x → unit_state m.units u ≡ Some x

-- then so have those of each unit
now_step : (p m : Point) (s : Step) (o : Outcome) (es : List Event) → m.journal ≡ plus p.journal es → OnlyOf (unit_of s) es → m.units ≡ units_after p.units s o → Sound p → OwnNow m (unit_of s)
    → (u : ℕ) → OwnNow m u
now_step p m s o es journal only units sound own u = elim (eqb_tells (unit_of s) u) [
  | inl same ↦ subst (OwnNow m) same.1 own
  | inr other ↦ λ x has.
      let before : HasNow p.journal u x = now_aside p.journal es u x (of_aside (unit_of s) es u other.1 only) (subst (λ (t : Told). HasNow t u x) journal has) in
      let slot : slice_get (units_after p.units s o) u ≡ slice_get p.units u = other_slot p.units (unit_of s) u (new_slot s o) other.1 in
      ap (λ (z : List Slot). unit_state z u) units ∙ ap (λ (z : Option Slot). option_map state_in z) slot ∙ sound.now u x before
]

-- a step was done, with this outcome
pub ran_step_all : {R : Type 0} (p m : Point) (s : Step) (o : Outcome) (k : Outcome → Act R) (es : List Event) → m.journal ≡ plus p.journal es → Counted p.faults (faults_in (o ∷ [])) m.faults
    → FitsStep s o es
    → IsOf s (slice_get p.units (unit_of s)) → m.units ≡ units_after p.units s o → KeepsConsole p m → m.objects ≡ p.objects → (Sound p → (u : ℕ) → Covers p.journal es u (unit_set p.units u) (unit_set m.units u))
    → (Sound p → (u : ℕ) → OwnNow m u) → Ran p m (Does s k) (k o)
ran_step_all p m s o k es journal counted fits speaks units console objects covered now = ran_one p m (Does s k) (k o) (record { deed = Did s o; piece = es }) beat (refl, refl)
  where
    beat : Beats p (record { deed = Did s o; piece = es }) m
    beat = record {
      journal = journal;
      faults = counted;
      fits = fits;
      console = console;
      speaks = speaks;
      units = units;
      objects = objects;
      covered = covered;
      now = now;
    }

-- the same with events of its own unit alone
pub ran_step : {R : Type 0} (p m : Point) (s : Step) (o : Outcome) (k : Outcome → Act R) (es : List Event) → m.journal ≡ plus p.journal es → Counted p.faults (faults_in (o ∷ [])) m.faults
    → OnlyOf (unit_of s) es → FitsStep s o es → IsOf s (slice_get p.units (unit_of s)) → m.units ≡ units_after p.units s o → KeepsConsole p m → m.objects ≡ p.objects
    → (Sound p → Covers p.journal es (unit_of s) (unit_set p.units (unit_of s)) (unit_set m.units (unit_of s))) → (Sound p → OwnNow m (unit_of s)) → Ran p m (Does s k) (k o)
ran_step p m s o k es journal counted only fits speaks units console objects own own_now =
    ran_step_all p m s o k es journal counted fits speaks units console objects (λ sound u. covers_step p m s o es only units sound (own sound) u)
    (λ sound u. now_step p m s o es journal only units sound (own_now sound) u)

-- each step may write nothing
none_few : (s : Step) (o : Outcome) → WritesFew s o 0
none_few (Access u slot) o = refl
none_few (Get u f wanted) Good = refl
none_few (Get u f wanted) (ReadFault j) = tt
none_few (Get u f wanted) SyncFault = tt
none_few (Get u f wanted) OldFault = tt
none_few (Get u f wanted) (EitherFault side) = tt
none_few (Put u m change stamp) o = omega arith
none_few (Wipe u old) o = omega arith
none_few (Make u old m stamp) o = omega arith

-- a step that adds no event and leaves the unit as it is
pub ran_still : {R : Type 0} (p m : Point) (s : Step) (o : Outcome) (k : Outcome → Act R) → m.journal ≡ p.journal → Counted p.faults (faults_in (o ∷ [])) m.faults → sync_count s o ≡ 0 → IsOutcome s o
    → IsOf s (slice_get p.units (unit_of s)) → m.units ≡ p.units → new_slot s o ≡ None → KeepsConsole p m → m.objects ≡ p.objects → Ran p m (Does s k) (k o)
ran_still p m s o k journal counted synced outcome speaks units none console objects =
    let after : m.units ≡ units_after p.units s o = units ∙ ap (put_slot p.units (unit_of s)) (sym none) in
    ran_step p m s o k [] journal counted tt (record { disk = tt; synced = sym synced; stamped = tt; few = none_few s o; outcome = outcome }) speaks after console objects
    (λ sound. covers_aside p [] (unit_of s) (unit_set m.units (unit_of s)) tt (same_sets p m (unit_of s) units) sound) (λ sound. now_kept p m [] journal units (λ u. tt) sound (unit_of s))

-- a step was cut off, with events of its own unit alone: it is enough to know that unit
pub begun_by : (p : Point) (s : Step) (es : List Event) → OnlyOf (unit_of s) es → syncs es ≤ begun_syncs s
    → (Sound p → (front rest : List Event) → front ++ rest ≡ es → (x : State) → Leaves (plus p.journal front) (unit_of s) x → IsAmong x (unit_set p.units (unit_of s)))
    → (Sound p → (front rest : List Event) → front ++ rest ≡ es → OwnNow (with_events p front) (unit_of s)) → Begun p s es
begun_by p s es only synced own own_now = record {
  disk = of_disk (unit_of s) es only;
  synced = synced;
  kept = λ sound front rest e.
      let own_front : OnlyOf (unit_of s) front = all_front (IsOfUnit (unit_of s)) front rest (subst (OnlyOf (unit_of s)) (sym e) only) in
      record {
        each = λ u x leaves. elim (eqb_tells (unit_of s) u) [
          | inl same ↦ subst (λ (v : ℕ). IsAmong x (unit_set p.units v)) same.1 (own sound front rest e x (subst (λ (v : ℕ). Leaves (plus p.journal front) v x) (sym same.1) leaves))
          | inr other ↦ sound.each u x (leaves_aside p.journal front u x (of_aside (unit_of s) front u other.1 own_front) leaves)
        ];
        now = λ u x has. elim (eqb_tells (unit_of s) u) [
          | inl same ↦ subst (λ (v : ℕ). unit_state p.units v ≡ Some x) same.1 (own_now sound front rest e x (subst (λ (v : ℕ). HasNow (plus p.journal front) v x) (sym same.1) has))
          | inr other ↦ sound.now u x (now_aside p.journal front u x (of_aside (unit_of s) front u other.1 own_front) has)
        ];
      };
}

pub broke_step : {R : Type 0} (p q : Point) (s : Step) (k : Outcome → Act R) (es : List Event) → q.journal ≡ plus p.journal es → Begun p s es → p.faults ≤ q.faults → q.units ≡ p.units
    → Broke p q (Does s k)
broke_step p q s k es journal begun later units = broke_now es begun journal later units

-- ---- objects

-- the object in a place was asked, and this came back
pub ran_ask : {R : Type 0} (p : Point) (n : ℕ) (o : Object) (r : Reply) (b : Back) (k : Back → Act R) → slice_get p.objects n ≡ Some o
    → may_answer o r b ≡ true → Ran p (record p { objects = set p.objects n (answered o b) }) (Asks n o r k) (k b)
ran_ask p n o r b k there may = ran_one p m (Asks n o r k) (k b) (record { deed = Asked n o r b; piece = [] }) beat (refl, refl, refl, refl)
  where
    m : Point
    m = record p { objects = set p.objects n (answered o b) }

    beat : Beats p (record { deed = Asked n o r b; piece = [] }) m
    beat = record {
      journal = refl;
      faults = not_counted p.faults p.faults (omega arith);
      fits = (refl, may);
      console = record { unread = refl; ended = refl };
      speaks = tt;
      units = refl;
      objects = (there, refl);
      covered = λ sound u. covers_aside p [] u (unit_set p.units u) tt refl sound;
      now = λ sound u x has. sound.now u x has;
    }

-- it was dropped
pub ran_drop : {R : Type 0} (p : Point) (n : ℕ) (t : Act R) → n < length p.objects → Ran p (record p { objects = remove p.objects n }) (Drops n t) t
ran_drop p n t there = ran_one p m (Drops n t) t (record { deed = Dropped n; piece = [] }) beat (refl, refl)
  where
    m : Point
    m = record p { objects = remove p.objects n }

    beat : Beats p (record { deed = Dropped n; piece = [] }) m
    beat = record {
      journal = refl;
      faults = not_counted p.faults p.faults (omega arith);
      fits = refl;
      console = record { unread = refl; ended = refl };
      speaks = tt;
      units = refl;
      objects = (there, refl);
      covered = λ sound u. covers_aside p [] u (unit_set p.units u) tt refl sound;
      now = λ sound u x has. sound.now u x has;
    }

-- What a deed makes of the units is what it adds to the trace.
use Rattle.std.proofs.Common.{◌≡◌, ◌≢◌, inl, inr, ℕ, true, false, ◌<◌, ◌==◌, if◌then◌else◌, List, Option, Some, None, refl, ap, sym, ◌∙◌, arith, slice_get, slice_set, length}
use Rattle.std.proofs.lemmas.Option.{slice_get_within, slice_get_past, slice_get-get_or}
use Rattle.std.proofs.lemmas.List.{length-set, get_or-set_other}
use Rattle.std.proofs.lemmas.Bool.{cases_lt}
use Rattle.std.proofs.lemmas.Bool.Decides.{eqb_tells}
use Rattle.std.proofs.lemmas.Grind.{get_or-set_at}
use Rattle.cms_model.specs.Minidisks.{Volume}
use Rattle.cms_model.specs.Slots.{Slot, Settled, set_of, unit_set}
use Rattle.cms_model.specs.Steps.{Step, Access, Get, Put, Wipe, Make, unit_of, new_slot, put_slot, IsOf}
use Rattle.cms_model.specs.Traces.{last_set, states_in}
use Rattle.cms_model.specs.Beats.{Deed, Said, Turned, Took, Did, Asked, Dropped, Beat, Beats, shown_by, SpeaksOf, units_by}
use Rattle.cms_model.specs.Points.{Point}

-- an element of a list in which another, or the same, was put
pub get_same : {A : Type 0} (units : List A) (v u : ℕ) (new : A) → v < length units → u ≡ v → slice_get (slice_set units v new) u ≡ Some new
get_same units v u new within same = let long = length-set units v new in let at = get_or-set_at units v u new new same within in let there =
    slice_get-get_or (slice_set units v new) u new (omega (arith, long, within, same)) in there ∙ ap Some at

pub get_other : {A : Type 0} (units : List A) (v u : ℕ) (new : A) → u ≢ v → slice_get (slice_set units v new) u ≡ slice_get units u
get_other units v u new other = elim (cases_lt u (length units)) [
  | inl below ↦
      let long = length-set units v new in
      slice_get-get_or (slice_set units v new) u new (omega (arith, long, below)) ∙ ap Some (get_or-set_other units v u new new other) ∙ sym (slice_get-get_or units u new below)
  | inr past ↦
      let long = length-set units v new in
      slice_get_past (slice_set units v new) u (omega (arith, long, past)) ∙ sym (slice_get_past units u past)
]

-- another unit keeps its slot
pub other_slot : (units : List Slot) (v u : ℕ) (new : Option Slot) → v ≢ u → slice_get (put_slot units v new) u ≡ slice_get units u
other_slot units v u None other = refl
other_slot units v u (Some new) other = get_other units v u new (λ e. other (sym e))

-- there are as many units
pub units_put : (units : List Slot) (u : ℕ) (new : Option Slot) → length (put_slot units u new) ≡ length units
units_put units u None = refl
units_put units u (Some new) = length-set units u new

pub set_put : (units : List Slot) (v u : ℕ) (old new : Slot) → slice_get units v ≡ Some old → unit_set (slice_set units v new) u ≡ (if v == u then set_of new else unit_set units u)
set_put units v u old new there = elim (eqb_tells v u) [
  | inl same ↦ let e : (v == u) ≡ true = same.0 in let g : slice_get (slice_set units v new) u ≡ Some new = get_same units v u new (slice_get_within units v old there) (sym same.1) in rw (e, g) refl
  | inr other ↦ let e : (v == u) ≡ false = other.0 in let g : slice_get (slice_set units v new) u ≡ slice_get units u = get_other units v u new (λ h. other.1 (sym h)) in rw (e, g) refl
]

-- a unit of which a step speaks is there
pub is_there : (s : Step) (now : Option Slot) → IsOf s now → (old : Slot) × (now ≡ Some old)
is_there (Access u slot) now is = (slot, is)
is_there (Get u f wanted) now is = (Settled (Volume is.minidisk), is.settled)
is_there (Put u m change stamp) now is = (Settled (Volume m), is)
is_there (Wipe u old) now is = (Settled old, is)
is_there (Make u old m stamp) now is = (Settled old, is)

sets_put : (units : List Slot) (v u : ℕ) (old : Slot) (new : Option Slot) → slice_get units v ≡ Some old → unit_set (put_slot units v new) u ≡ last_set u (unit_set units u) (states_in v new)
sets_put units v u old None there = refl
sets_put units v u old (Some new) there = set_put units v u old new there

-- the units after a deed have the last sets of what it adds
pub sets_by : (d : Deed) (units : List Slot) → SpeaksOf d units → (u : ℕ) → unit_set (units_by units d) u ≡ last_set u (unit_set units u) (shown_by d)
sets_by (Said b) units speaks u = refl
sets_by (Turned m) units speaks u = refl
sets_by (Took i) units speaks u = refl
sets_by (Asked n o r b) units speaks u = refl
sets_by (Dropped n) units speaks u = refl
sets_by (Did s o) units speaks u = let there = is_there s (slice_get units (unit_of s)) speaks in sets_put units (unit_of s) u there.0 (new_slot s o) there.1

-- and of a beat
pub beat_sets : (p m : Point) (b : Beat) → Beats p b m → (u : ℕ) → unit_set m.units u ≡ last_set u (unit_set p.units u) (shown_by b.deed)
beat_sets p m b beat u = ap (λ (units : List Slot). unit_set units u) beat.units ∙ sets_by b.deed p.units beat.speaks u

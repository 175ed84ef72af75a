-- A call that knows of no object, in a session that has some.
use Rattle.std.proofs.Common.{◌≡◌, List, Result, Ok, Err, refl, ap, subst, sym}
use Rattle.cms_model.specs.Acts.{Act, Done, bind}
use Rattle.cms_model.specs.Objects.{Object}
use Rattle.cms_model.specs.Slots.{Slot}
use Rattle.cms_model.proofs.ObjectsAsked.{broke_beside, ran_beside}
use Rattle.cms_search.specs.Calls.{Acts, Meaning, Spot, SpotWith, at}
use Rattle.cms_search.specs.declared.state.End.{End}
use Rattle.cms_search.specs.declared.state.State.{State}
use Rattle.cms_world.specs.Seen.{Seen}
use Rattle.cms_search.proofs.Acts.{acts_done, acts_stop, comes_in, comes_same, comes_then}
use Rattle.exec2_run.specs.State.{Exec}
use Rattle.cms_cards.specs.PunchedCards.{Decks}
use Rattle.cms_session.specs.RoundCalls.{passed_beside, passed_with, round_with}
use Rattle.cms_session.specs.Decks.{leaving_decks}
use Rattle.cms_session.specs.Procedures.{Round, leaving, passed}
use Rattle.cms_session.specs.declared.state.Round as rounds

-- where it stands but for the objects
abbrev pub alone : {os : List Object} → SpotWith os → Spot
alone s = record { world = s.world; state = s.state }

abbrev pub standing : (os : List Object) → Seen → State → SpotWith os
standing os world state = record { world = world; state = state }

-- it does the same beside them, and leaves them
pub acts_alone : {R T : Type 0} {os : List Object} (old new : SpotWith os) (t : List Slot → Act R) (r : Result T End) (d : Meaning T R)
    → Acts (alone old) (alone new) t r d → Acts old new t r d
acts_alone {os = os} old new t (Ok x) d a = record {
  each = λ units h.
      let y = a.each units h in
      (y.0, (y.1.0, ran_beside os (at (alone old) units) (at (alone new) y.0) (t units) (Done (d y.0 x)) y.1.1 refl));
  later = a.later;
  usable = λ u. a.usable u;
  cause = a.cause;
}
acts_alone {os = os} old new t (Err e) d a = record {
  each = λ units h.
      let y = a.each units h in
      (y.0, (y.1.0, broke_beside os (at (alone old) units) (at (alone new) y.0) (t units) y.1.1 refl));
  later = a.later;
  usable = λ u. a.usable u;
  cause = a.cause;
}

-- within a tree that names what it leaves
pub leaves_so : {A B T U : Type 0} {os : List Object} (old new : SpotWith os) (t : List Slot → Act A) (f : A → B) (x : T) (d : Meaning T A) (y : U) (e : Meaning U B)
    → Acts (alone old) (alone new) t (Ok x) d → ((units : List Slot) → f (d units x) ≡ e units y)
    → Acts old new (λ units. bind (t units) (λ a. Done (f a))) (Ok y) e
leaves_so {B = B} old new t f x d y e acts is =
    acts_done old new (λ units. bind (t units) (λ a. Done (f a))) y e
    (comes_then old new new (λ units. bind (t units) (λ a. Done (f a))) (λ units. Done (f (d units x))) (λ units. Done (e units y))
    (comes_in old new t (λ a. Done (f a)) x d (acts_alone old new t (Ok x) d acts))
    (comes_same new (λ units. Done (f (d units x))) (λ units. Done (e units y)) (λ units h. ap (λ (z : B). Done z) (is units))))

pub leaves_off : {A B T U : Type 0} {os : List Object} (old new : SpotWith os) (t : List Slot → Act A) (f : A → B) (e : End) (d : Meaning T A) (d' : Meaning U B)
    → Acts {T = T} (alone old) (alone new) t (Err e) d → Acts {T = U} old new (λ units. bind (t units) (λ a. Done (f a))) (Err e) d'
leaves_off old new t f e d d' acts = acts_stop old new t (λ a. Done (f a)) e d d' (acts_alone old new t (Err e) d acts)

-- the round of what procedures do by themselves
pub left : {os : List Object} (old new : SpotWith os) (t : List Slot → Act Round) (r : Result rounds.Round End) (qs : List Exec)
    → Acts (alone old) (alone new) t r (round_with new.state qs) → Acts old new (λ units. leaving os (t units)) r (passed_with new.state qs os)
left {os = os} old new t (Ok x) qs acts = leaves_so old new t (passed os) x (round_with new.state qs) x (passed_with new.state qs os) acts (λ units. refl)
left {os = os} old new t (Err e) qs acts =
    leaves_off {T = rounds.Round} {U = rounds.Round} old new t (passed os) e (round_with new.state qs) (passed_with new.state qs os) acts

-- ---- beside the decks

abbrev with_decks : {A : Type 0} → Decks → A → Act (A × Decks)
with_decks decks x = Done (x, decks)

-- what knows of none leaves them
pub decked : {A T : Type 0} {a b : List Object} (old : SpotWith a) (new : SpotWith b) (decks : Decks) (t : List Slot → Act A) (r : Result T End) (d : Meaning T A)
    → Acts old new t r d → Acts old new (λ units. leaving_decks decks (t units)) r (λ units x. (d units x, decks))
decked {A = A} old new decks t (Ok x) d a =
    acts_done old new (λ units. leaving_decks decks (t units)) x (λ units y. (d units y, decks))
    (comes_in old new t (λ (y : A). with_decks decks y) x d a)
decked {A = A} old new decks t (Err e) d a =
    acts_stop old new t (λ (y : A). with_decks decks y) e d (λ units y. (d units y, decks)) a

-- the round of what procedures do by themselves
pub left_decked : {os : List Object} (old new : SpotWith os) (decks kept : Decks) (t : List Slot → Act Round) (r : Result rounds.Round End) (qs : List Exec) → kept ≡ decks
    → Acts (alone old) (alone new) t r (round_with new.state qs) → Acts old new (λ units. leaving_decks decks (leaving os (t units))) r (passed_beside new.state kept qs os)
left_decked {os = os} old new decks kept t r qs same acts =
    subst (λ (ds : Decks). Acts old new (λ units. leaving_decks decks (leaving os (t units))) r (passed_beside new.state ds qs os)) (sym same)
    (decked old new decks (λ units. leaving os (t units)) r (passed_with new.state qs os) (left old new t r qs acts))

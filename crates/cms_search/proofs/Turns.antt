-- A call of the console or the clock with what follows it, and turns.
use Rattle.std.proofs.Common.{◌≡◌, ℕ, ℤ, List, Result, Ok, Err, refl, ap, ◌∙◌, sym, subst}
use Rattle.cms_fields.specs.declared.time.Moment.{Moment}
use Rattle.cms_fields.specs.Moments.{moment_of}
use Rattle.cms_model.specs.Objects.{Object}
use Rattle.cms_model.specs.Slots.{Slot}
use Rattle.cms_model.specs.Acts.{Act, Done, bind, turning}
use Rattle.cms_line.specs.ConsoleState.{Console}
use Rattle.cms_search.specs.Calls.{SpotWith, Meaning, Does, Acts, itself, machine_of}
use Rattle.cms_search.specs.Machine.{turned}
use Rattle.cms_search.specs.Talks.{Talks}
use Rattle.cms_search.specs.Turns.{machine_now, turning_tree}
use Rattle.cms_search.specs.declared.state.End.{End}
use Rattle.cms_search.specs.declared.state.State.{State}
use Rattle.cms_search.proofs.Acts.{acts_talks}
use Rattle.cms_search.proofs.Talks.{Came, came_none, came_on, came_off, came_to, of_does}

-- a call of them, and what follows it is done
pub done_talks : {A R T U : Type 0} {os : List Object} (old new : SpotWith os) (s : Act A) (f : List Slot → A → Act R) (x : T) (d : T → A) (y : U) (m : Meaning U R) → new.state.table ≡ old.state.table
    → Talks old.world new.world old.state.console new.state.console s (Ok x) d → ((units : List Slot) → f units (d x) ≡ Done (m units y))
    → Acts old new (λ units. bind s (f units)) (Ok y) m
done_talks {R = R} old new s f x d y m table talks is = acts_talks old new (λ units. bind s (f units)) (Ok y) m table
    (λ units. came_to old.world new.world old.state.console new.state.console (bind s (f units)) y (m units)
    (subst (λ (t : Act R). Came old.world new.world old.state.console new.state.console (bind s (f units)) t) (is units)
    (came_on old.world old.world new.world old.state.console old.state.console new.state.console (bind s (f units)) s (f units) x d
    (came_none old.world old.state.console (bind s (f units))) talks)))

-- or it was cut off
pub cut_talks : {A R T U : Type 0} {os : List Object} (old new : SpotWith os) (s : Act A) (f : List Slot → A → Act R) (e : End) (d : T → A) (m : Meaning U R) → new.state.table ≡ old.state.table
    → Talks {T = T} old.world new.world old.state.console new.state.console s (Err e) d → Acts {T = U} old new (λ units. bind s (f units)) (Err e) m
cut_talks {T = T} {U = U} old new s f e d m table talks = acts_talks {T = U} old new (λ units. bind s (f units)) (Err e) m table
    (λ units. came_off {T = T} {U = U} old.world old.world new.world old.state.console old.state.console new.state.console (bind s (f units)) s (f units) e d (m units)
    (came_none old.world old.state.console (bind s (f units))) talks)

-- the same of one that leaves the console
pub talks_kept : {A T : Type 0} {os : List Object} (old new : SpotWith os) (s : Act A) (r : Result T End) (d : T → A) → new.state.console ≡ old.state.console → Does old.world new.world s r d
    → Talks old.world new.world old.state.console new.state.console s r d
talks_kept {T = T} old new s r d console does =
    subst (λ (c : Console). Talks {T = T} old.world new.world old.state.console c s r d) (sym console) (of_does old.world new.world old.state.console s r d does)

-- ---- a turn

-- a turn was spent at this moment
pub turned_so : {os : List Object} (old new : SpotWith os) (seconds : ℤ) (moment : Moment) (left : ℕ) (x : Unit {0}) → Does old.world new.world turning (Ok seconds) itself
    → moment ≡ moment_of seconds old.state.offset → new.state ≡ record old.state { moment = moment; left = left }
    → Acts old new (turning_tree old.state left) (Ok x) (machine_now new.state)
turned_so old new seconds moment left x does is kept =
    done_talks old new turning (λ units m. Done (turned (machine_of old.state units) left m)) seconds itself x (machine_now new.state) (ap (λ (s : State). s.table) kept)
    (talks_kept old new turning (Ok seconds) itself (ap (λ (s : State). s.console) kept) does)
    (λ units.
    let machine : machine_of new.state units ≡ turned (machine_of old.state units) left seconds =
    ap (λ (s : State). machine_of s units) kept ∙ ap (λ (m : Moment). record (machine_of old.state units) { moment = m; left = left }) is in
    rw machine refl)

pub not_turned : {os : List Object} (old new : SpotWith os) (left : ℕ) (e : End) → Does {T = ℤ} old.world new.world turning (Err e) itself → new.state.console ≡ old.state.console → new.state.table ≡ old.state.table
    → Acts {T = Unit {0}} old new (turning_tree old.state left) (Err e) (machine_now new.state)
not_turned old new left e does console table =
    cut_talks {T = ℤ} {U = Unit {0}} old new turning (λ units m. Done (turned (machine_of old.state units) left m)) e itself (machine_now new.state) table
    (talks_kept {T = ℤ} old new turning (Err e) itself console does)

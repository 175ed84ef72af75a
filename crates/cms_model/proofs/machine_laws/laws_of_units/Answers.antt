use Rattle.std.proofs.Common.{◌≡◌, inl, inr, ⊎_elim, Some, refl}
use Rattle.cms_model.specs.Minidisks.{State}
use Rattle.cms_model.specs.Slots.{Side, Before, After, Slot, Settled, Doubt, named, state_in, set_of, IsAmong}
use Rattle.cms_model.specs.Steps.{Outcome, Good, ReadFault, SyncFault, OldFault, EitherFault, after_access}
use Rattle.cms_model.proofs.machine_laws.laws_of_units.Goals as goal

some_same : (a b : Slot) → Some a ≡ Some b → b ≡ a
some_same a b e = cc

ended : (slot new : Slot) (o : Outcome) → after_access slot o ≡ Some new → new ≡ Settled (state_in slot)
ended (Settled state) new o e = absurd (cc)
ended (Doubt before later side) new Good e = some_same (Settled (named before later side)) new e
ended (Doubt before later side) new (ReadFault j) e = some_same (Settled (named before later side)) new e
ended (Doubt before later side) new SyncFault e = absurd (cc)
ended (Doubt before later side) new OldFault e = absurd (cc)
ended (Doubt before later side) new (EitherFault s) e = absurd (cc)

of_both : (before later : State) (side : Side) → IsAmong (state_in (Doubt before later side)) (set_of (Doubt before later side))
of_both before later Before = inl refl
of_both before later After = inr (inl refl)

pub returns-clause-wanted : goal.returns-clause-wanted
returns-clause-wanted c = λ u f wanted j may. may

pub returns-clause-ended : goal.returns-clause-ended
returns-clause-ended c = λ u slot new o e. ended slot new o e

pub returns-clause-settled : goal.returns-clause-settled
returns-clause-settled c = λ state x among. ⊎_elim (λ e. e) (λ none. absurd none) among

pub returns-clause-doubt : goal.returns-clause-doubt
returns-clause-doubt c = λ before later side. of_both before later side

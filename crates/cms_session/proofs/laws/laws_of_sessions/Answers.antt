use Rattle.std.proofs.Common.{◌≡◌, ◌⊎◌, inl, inr, ⊎_elim, ℕ, ◌+◌, ◌-◌, ◌^◌, ◌<◌, ◌≤◌, min, List, refl, sym, ap, ◌∙◌, arith}
use Rattle.cms_model.proofs.Lists.{lt_or_le}
use Rattle.cms_journal.specs.Causes.{Rose, Counted}
use Rattle.cms_journal.specs.declared.event.Event.{Event}
use Rattle.cms_model.specs.Objects.{Back}
use Rattle.cms_model.specs.Slots.{Slot, Settled}
use Rattle.cms_model.specs.Steps.{Outcome}
use Rattle.cms_model.specs.Feeds.{Fed, Over}
use Rattle.cms_session.specs.Headline.{Start, Agrees, Came, EndsAs, run_on}
use Rattle.cms_session.specs.Sessions.{status_of}
use Rattle.cms_session.specs.declared.state.Finish.{Finish}
use Rattle.cms_session.specs.declared.state.Finish.TheVariants as finish
use Rattle.cms_session.specs.declared.status.Status.{Status}
use Rattle.cms_session.specs.declared.status.Status.TheVariants.{Done, Usage, Memory, World, Turns}
use Rattle.cms_session.proofs.Handed.{asked_is_itself, dropped_is_lost}
use Rattle.cms_session.proofs.laws.laws_of_sessions.Goals as goal

same_finish : (f : Fed Finish) (a b : Finish) → f.close ≡ Over a → f.close ≡ Over b → a ≡ b
same_finish f a b x y = let e : Over a ≡ Over b = sym x ∙ y in cc

as_machine : (s : Start) (events : List Event) (os : List Outcome) (bs : List Back) (units : List Slot) (before now : ℕ) (status : Status)
    → EndsAs s events os bs units before now status → (Rose before now → ⊥) → (end : Finish) → (run_on s events os bs).close ≡ Over end
    → (status ≡ status_of end) ⊎ (status ≡ Memory)
as_machine s events os bs units before now Done e still end close = inl (ap status_of (same_finish (run_on s events os bs) finish.AtEnd end e.close close))
as_machine s events os bs units before now Turns e still end close = inl (ap status_of (same_finish (run_on s events os bs) finish.AtTurns end e.close close))
as_machine s events os bs units before now World e still end close = absurd (still e.1)
as_machine s events os bs units before now Memory e still end close = inr refl
as_machine s events os bs units before now (Usage fault) e still end close = absurd e

none_counted : (before now n : ℕ) → Counted before n now → (Rose before now → ⊥) → n ≡ 0
none_counted before now n c still =
    ⊎_elim
    (λ (less : now < min (before + 1) (2 ^ 64 - 1)).
    ⊎_elim (λ (sum : before + n ≤ now). omega (arith, sum, less)) (λ (most : 2 ^ 64 - 1 ≤ now). absurd (omega (arith, most, less))) c.rose)
    (λ (rose : min (before + 1) (2 ^ 64 - 1) ≤ now). absurd (still rose))
    (lt_or_le now (min (before + 1) (2 ^ 64 - 1)))

pub returns-clause-ends : goal.returns-clause-ends
returns-clause-ends c = λ s before now status h still finish close. as_machine s h.events h.outcomes h.backs h.units before.edges now.edges status h.ends still finish close

pub returns-clause-faults : goal.returns-clause-faults
returns-clause-faults c = λ s before now status h still. none_counted before.faults now.faults _ h.counted still

completed : (s : Start) (events : List Event) (os : List Outcome) (bs : List Back) (units : List Slot) (before now : ℕ) (status : Status)
    → Agrees s events os bs units status → EndsAs s events os bs units before now status → (Rose before now → ⊥)
    → (run_on s events os bs).close ≡ Over finish.AtEnd
    → ((status ≡ Done) × Agrees s events os bs units Done × Came s events os bs units finish.AtEnd) ⊎ (status ≡ Memory)
completed s events os bs units before now Done a e still close = inl (refl, a, e)
completed s events os bs units before now Turns a e still close = let never = same_finish (run_on s events os bs) finish.AtTurns finish.AtEnd e.close close in absurd (cc never)
completed s events os bs units before now World a e still close = absurd (still e.1)
completed s events os bs units before now Memory a e still close = inr refl
completed s events os bs units before now (Usage fault) a e still close = absurd e

pub returns-clause-complete : goal.returns-clause-complete
returns-clause-complete c = λ s before now status h still good close. (
  none_counted before.faults now.faults _ h.counted good,
  completed s h.events h.outcomes h.backs h.units before.edges now.edges status h.agrees h.ends still close,
)

pub returns-clause-settled : goal.returns-clause-settled
returns-clause-settled c = λ s before now status h u state slot x leaves. ⊎_elim (λ e. e) (λ none. absurd none) ((h.stands u (Settled state) slot).crash x leaves)

pub returns-clause-asked : goal.returns-clause-asked
returns-clause-asked c = asked_is_itself

pub returns-clause-dropped : goal.returns-clause-dropped
returns-clause-dropped c = dropped_is_lost

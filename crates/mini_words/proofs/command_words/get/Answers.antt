use Rattle.std.proofs.Common.{inl, refl}
use Rattle.mini_words.specs.Requests.{get_of}
use Rattle.mini_words.proofs.Answers.{answer_stops, exact_stops, said_so}
use Rattle.mini_words.proofs.command_words.get.Goals as goal

pub returns-in_err-image-clause-answer : goal.returns-in_err-image-clause-answer
unfolding get_of
returns-in_err-image-clause-answer c = answer_stops _ _ _ _ c.from_residual.ensures.1 c.in_err-image.ensures (λ is. rw is refl)

pub returns-in_err-form-clause-answer : goal.returns-in_err-form-clause-answer
unfolding get_of
returns-in_err-form-clause-answer c = exact_stops _ _ _ c.from_residual-in_err-form.ensures.1 (rw (said_so _ _ c.in_ok-image.ensures, ← c.in_err-form.ensures) refl)

pub returns-in_err-names-clause-answer : goal.returns-in_err-names-clause-answer
unfolding get_of
returns-in_err-names-clause-answer c = answer_stops _ _ _ _ c.from_residual-in_err-names.ensures.1 c.in_err-names.ensures (λ is. rw (said_so _ _ c.in_ok-image.ensures, ← c.in_ok-form.ensures, is) refl)

pub returns-in_err-target-clause-answer : goal.returns-in_err-target-clause-answer
unfolding get_of
returns-in_err-target-clause-answer c = answer_stops _ _ _ _ c.from_residual-in_err-target.ensures.1 c.in_err-target.ensures (λ is. rw (said_so _ _ c.in_ok-image.ensures, ← c.in_ok-form.ensures, said_so _ _ c.in_ok-names.ensures, is) refl)

pub returns-clause-answer : goal.returns-clause-answer
unfolding get_of
returns-clause-answer c = inl (rw (said_so _ _ c.in_ok-image.ensures, ← c.in_ok-form.ensures, said_so _ _ c.in_ok-names.ensures, said_so _ _ c.in_ok-target.ensures, c.is_set.ensures, c.is_set-2.ensures) refl)

use Rattle.std.proofs.Common.{inl, refl, rules, w32, FitsSigned}
use Rattle.std.proofs.lemmas.Int.{to_z-of_z}
use Rattle.mini_words.specs.Requests.{erase_of}
use Rattle.mini_words.proofs.Answers.{answer_stops, exact_stops, said_so}
use Rattle.mini_words.proofs.command_words.erase.Goals as goal

pub returns-in_err-image-clause-answer : goal.returns-in_err-image-clause-answer
unfolding erase_of
returns-in_err-image-clause-answer c = answer_stops _ _ _ _ c.from_residual.ensures.1 c.in_err-image.ensures (λ is. rw is refl)

pub returns-in_err-offset-clause-answer : goal.returns-in_err-offset-clause-answer
unfolding erase_of
returns-in_err-offset-clause-answer c = exact_stops _ _ _ c.from_residual-in_err-offset.ensures.1 (rw (said_so _ _ c.in_ok-image.ensures, ← c.in_err-offset.ensures.value) refl)

pub returns-in_err-names-clause-answer : goal.returns-in_err-names-clause-answer
unfolding erase_of
returns-in_err-names-clause-answer c = answer_stops _ _ _ _ c.from_residual-in_err-names.ensures.1 c.in_err-names.ensures (λ is. rw (said_so _ _ c.in_ok-image.ensures, ← c.in_ok-offset.ensures.value, is) refl)

pub returns-clause-answer : goal.returns-clause-answer
unfolding erase_of
returns-clause-answer c =
    let fits : FitsSigned w32 c.in_ok-offset.offset = search rules in
    let same = to_z-of_z w32 c.in_ok-offset.offset fits in
    inl (rw (said_so _ _ c.in_ok-image.ensures, ← c.in_ok-offset.ensures.value, said_so _ _ c.in_ok-names.ensures, same, c.is_set.ensures) refl)

use Rattle.std.proofs.Common.{inl, refl, rules, w32, FitsSigned}
use Rattle.std.proofs.lemmas.Int.{to_z-of_z}
use Rattle.mini_words.specs.Requests.{rename_of}
use Rattle.mini_words.proofs.Answers.{exact_stops}
use Rattle.mini_words.proofs.command_words.rename.Goals as goal

pub returns-in_err-size-clause-answer : goal.returns-in_err-size-clause-answer
unfolding rename_of
returns-in_err-size-clause-answer c = exact_stops _ _ _ c.from_residual.ensures.1 (rw (← c.in_err-size.ensures) refl)

pub returns-in_err-from-clause-answer : goal.returns-in_err-from-clause-answer
unfolding rename_of
returns-in_err-from-clause-answer c = exact_stops _ _ _ c.from_residual-in_err-from.ensures.1 (rw (← c.in_ok-size.ensures, ← c.in_err-from.ensures) refl)

pub returns-in_err-to-clause-answer : goal.returns-in_err-to-clause-answer
unfolding rename_of
returns-in_err-to-clause-answer c = exact_stops _ _ _ c.from_residual-in_err-to.ensures.1 (rw (← c.in_ok-size.ensures, ← c.in_ok-from.ensures, ← c.in_err-to.ensures) refl)

pub returns-in_err-offset-clause-answer : goal.returns-in_err-offset-clause-answer
unfolding rename_of
returns-in_err-offset-clause-answer c = exact_stops _ _ _ c.from_residual-in_err-offset.ensures.1 (rw (← c.in_ok-size.ensures, ← c.in_ok-from.ensures, ← c.in_ok-to.ensures, ← c.in_err-offset.ensures.value) refl)

pub returns-clause-answer : goal.returns-clause-answer
unfolding rename_of
returns-clause-answer c =
    let fits : FitsSigned w32 c.in_ok-offset.offset = search rules in
    let same = to_z-of_z w32 c.in_ok-offset.offset fits in
    inl (rw (← c.in_ok-size.ensures, ← c.in_ok-from.ensures, ← c.in_ok-to.ensures, ← c.in_ok-offset.ensures.value, same, c.in_ok-image.ensures, c.is_set.ensures) refl)

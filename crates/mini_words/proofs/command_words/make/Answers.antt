use Rattle.std.proofs.Common.{inl, refl, rules, w32, FitsSigned}
use Rattle.std.proofs.lemmas.Int.{to_z-of_z}
use Rattle.mini_words.specs.Requests.{make_of}
use Rattle.mini_words.proofs.Answers.{exact_stops}
use Rattle.mini_words.proofs.command_words.make.Goals as goal

pub returns-in_err-size-clause-answer : goal.returns-in_err-size-clause-answer
unfolding make_of
returns-in_err-size-clause-answer c = exact_stops _ _ _ c.from_residual.ensures.1 (rw (← c.in_err-size.ensures) refl)

pub returns-in_err-blocks-clause-answer : goal.returns-in_err-blocks-clause-answer
unfolding make_of
returns-in_err-blocks-clause-answer c = exact_stops _ _ _ c.from_residual-in_err-blocks.ensures.1 (rw (← c.in_ok-size.ensures, ← c.in_err-blocks.ensures) refl)

pub returns-in_err-label-clause-answer : goal.returns-in_err-label-clause-answer
unfolding make_of
returns-in_err-label-clause-answer c = exact_stops _ _ _ c.from_residual-in_err-label.ensures.1 (rw (← c.in_ok-size.ensures, ← c.in_ok-blocks.ensures, ← c.in_err-label.ensures) refl)

pub returns-in_err-offset-clause-answer : goal.returns-in_err-offset-clause-answer
unfolding make_of
returns-in_err-offset-clause-answer c = exact_stops _ _ _ c.from_residual-in_err-offset.ensures.1 (rw (← c.in_ok-size.ensures, ← c.in_ok-blocks.ensures, ← c.in_ok-label.ensures, ← c.in_err-offset.ensures.value) refl)

pub returns-clause-answer : goal.returns-clause-answer
unfolding make_of
returns-clause-answer c =
    let fits : FitsSigned w32 c.in_ok-offset.offset = search rules in
    let same = to_z-of_z w32 c.in_ok-offset.offset fits in
    inl (rw (← c.in_ok-size.ensures, ← c.in_ok-blocks.ensures, ← c.in_ok-label.ensures, ← c.in_ok-offset.ensures.value, same, c.in_ok-of.ensures, c.text.ensures) refl)

use Rattle.std.proofs.Common.{inl, refl}
use Rattle.mini_words.specs.Requests.{told_target}
use Rattle.mini_words.proofs.Answers.{answer_stops, exact_stops, said_so}
use Rattle.mini_words.proofs.command_words.told_target.Goals as goal

pub returns-in_err-target : goal.returns-in_err-target
unfolding told_target
returns-in_err-target c = answer_stops _ _ _ _ c.from_residual.ensures.1 c.in_err-target.ensures (λ is. rw is refl)

pub returns-in_err-check_saying : goal.returns-in_err-check_saying
unfolding told_target
returns-in_err-check_saying c = exact_stops _ _ _ c.from_residual-in_err-check_saying.ensures.1 (rw (said_so _ _ c.in_ok-target.ensures, ← c.is_set.ensures, ← c.in_err-check_saying.ensures) refl)

pub returns : goal.returns
unfolding told_target
returns c = inl (rw (said_so _ _ c.in_ok-target.ensures, ← c.is_set.ensures, ← c.in_ok-check_saying.ensures) refl)

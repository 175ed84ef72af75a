use Rattle.std.proofs.Common.{inl, refl}
use Rattle.mini_words.specs.Requests.{sized_image}
use Rattle.mini_words.proofs.Answers.{exact_stops}
use Rattle.mini_words.proofs.command_words.sized_image.Goals as goal

pub returns-in_err-size : goal.returns-in_err-size
unfolding sized_image
returns-in_err-size c = exact_stops _ _ _ c.from_residual.ensures.1 (rw (← c.in_err-size.ensures) refl)

pub returns : goal.returns
unfolding sized_image
returns c = inl (rw (← c.in_ok-size.ensures, c.in_ok-image.ensures) refl)

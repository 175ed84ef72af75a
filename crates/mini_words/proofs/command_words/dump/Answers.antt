use Rattle.std.proofs.Common.{inl, refl}
use Rattle.mini_words.specs.Requests.{dump_of}
use Rattle.mini_words.proofs.Answers.{answer_stops, said_so}
use Rattle.mini_words.proofs.command_words.dump.Goals as goal

pub returns-in_err-image-clause-answer : goal.returns-in_err-image-clause-answer
unfolding dump_of
returns-in_err-image-clause-answer c = answer_stops _ _ _ _ c.from_residual.ensures.1 c.in_err-image.ensures (λ is. rw is refl)

pub returns-in_err-blocks-clause-answer : goal.returns-in_err-blocks-clause-answer
unfolding dump_of
returns-in_err-blocks-clause-answer c = answer_stops _ _ _ _ c.from_residual-in_err-blocks.ensures.1 c.in_err-blocks.ensures (λ is. rw (said_so _ _ c.in_ok-image.ensures, ← c.texts.ensures, is) refl)

pub returns-clause-answer : goal.returns-clause-answer
unfolding dump_of
returns-clause-answer c = inl (rw (said_so _ _ c.in_ok-image.ensures, ← c.texts.ensures, said_so _ _ c.in_ok-blocks.ensures) refl)

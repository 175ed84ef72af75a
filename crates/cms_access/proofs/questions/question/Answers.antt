use Rattle.std.proofs.Common.{refl}
use Rattle.std.proofs.lemmas.Result.{err_from_is_err_and}
use Rattle.cms_search.specs.Calls.{spot}
use Rattle.cms_search.specs.Talks.{ask_tree, asked_of}
use Rattle.cms_access.proofs.Questioned.{acts_said, said_stops}
use Rattle.cms_access.proofs.questions.question.Goals as goal

pub returns-in_err-say_message-clause-acts : goal.returns-in_err-say_message-clause-acts
returns-in_err-say_message-clause-acts g c =
    let p = err_from_is_err_and c.from_residual.result c.from_residual.ensures.1 in
    let st = c.args.state.now in
    rw (p.1, p.2) (said_stops _ _ c.args.message (ask_tree st) _ (asked_of st) c.in_err-say_message.ensures refl)

pub returns-clause-acts : goal.returns-clause-acts
returns-clause-acts g c =
    let st = c.args.state.now in
    acts_said _ (spot g.W.World c.say_message.new.world st) _ c.args.message (ask_tree st) c.in_ok-say_message.field-0 _ (asked_of c.ask.new.self) c.in_ok-say_message.ensures refl
    c.ask.ensures.acts

use Rattle.std.proofs.Common.{refl}
use Rattle.std.proofs.lemmas.Result.{err_from_is_err_and}
use Rattle.cms_line.specs.declared.message.Message.TheVariants.{M605}
use Rattle.cms_search.specs.Calls.{spot}
use Rattle.cms_search.specs.Talks.{asked_of}
use Rattle.cms_search.specs.declared.asked_line.Asked.TheVariants.{Given, Spent}
use Rattle.cms_search.specs.declared.state.Course.TheVariants.{OutOfTurns}
use Rattle.cms_search.proofs.Acts.{acts_stop}
use Rattle.cms_access.specs.Format.{on_label}
use Rattle.cms_access.specs.Questions.{labelling_of, question_tree}
use Rattle.cms_access.specs.declared.questions.Label.TheVariants.{Ended}
use Rattle.cms_search.proofs.StateCalls.{acts_starved}
use Rattle.cms_access.proofs.Questioned.{acts_bind, acts_over}
use Rattle.cms_access.proofs.questions.ask_label.Goals as goal

pub returns-in_err-line-clause-acts : goal.returns-in_err-line-clause-acts
returns-in_err-line-clause-acts g c =
    let p = err_from_is_err_and c.from_residual.result c.from_residual.ensures.1 in
    let st' = c.question.new.state in
    rw (p.1, p.2) (acts_stop _ _ (question_tree c.args.state.now M605) on_label _ (asked_of st') (labelling_of st') c.in_err-line.ensures.acts)

pub returns-in_err-text-in-Given-clause-acts : goal.returns-in_err-text-in-Given-clause-acts
returns-in_err-text-in-Given-clause-acts g c =
    let p = err_from_is_err_and c.from_residual-in_err-text-in-Given.result c.from_residual-in_err-text-in-Given.ensures.1 in
    let st' = c.question.new.state in
    let given = spot g.W.World c.question.new.world st' in
    let is = c.in-Given.is in
    let acts = rw is at c.in_ok-line.ensures.acts in
    rw (p.1, p.2)
    (acts_bind _ given given (question_tree c.args.state.now M605) on_label (Given c.in-Given.line) (asked_of st') _ (labelling_of st') acts
    (acts_starved given (λ units. on_label (asked_of st' units (Given c.in-Given.line))) (labelling_of st')))

pub returns-in_ok-text-in-Given-clause-acts : goal.returns-in_ok-text-in-Given-clause-acts
returns-in_ok-text-in-Given-clause-acts g c =
    let st' = c.question.new.state in
    let is = c.in-Given.is in
    let acts = rw is at c.in_ok-line.ensures.acts in
    let text = c.in_ok-text-in-Given.ensures in
    let taken = rw text at c.take_label.ensures in
    acts_bind _ (spot g.W.World c.question.new.world st') _ (question_tree c.args.state.now M605) on_label (Given c.in-Given.line) (asked_of st') _ (labelling_of st') acts taken

pub returns-in-Spent-clause-acts : goal.returns-in-Spent-clause-acts
returns-in-Spent-clause-acts g c =
    let st' = c.question.new.state in
    let given = spot g.W.World c.question.new.world st' in
    let is = c.in-Spent.is in
    let acts = rw is at c.in_ok-line.ensures.acts in
    acts_bind _ given given (question_tree c.args.state.now M605) on_label Spent (asked_of st') _ (labelling_of st') acts
    (acts_over given (λ units. on_label (asked_of st' units Spent)) (Ended OutOfTurns) (labelling_of st') (λ units. refl))

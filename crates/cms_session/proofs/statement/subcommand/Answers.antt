use Rattle.std.proofs.Common.{◌∷◌}
use Rattle.std.proofs.lemmas.Result.{err_from_is_err_and}
use Rattle.cms_search.proofs.Acts.{comes_none, no_memory}
use Rattle.cms_session.proofs.Subcommands.{sent_off, sent_so}
use Rattle.cms_session.proofs.statement.subcommand.Goals as goal

pub returns-in_default-clause-acts : goal.returns-in_default-clause-acts
returns-in_default-clause-acts g c = no_memory _ _ _ _ _ (comes_none _ _)

pub returns-in_err-course-clause-acts : goal.returns-in_err-course-clause-acts
returns-in_err-course-clause-acts g c =
    let p = err_from_is_err_and c.from_residual.result c.from_residual.ensures.1 in
    let s = c.args.session.now in
    rw (p.1, p.2) (sent_off _ _ s.reader _ _ (c.args.procedure ∷ s.procedures) c.args.word.now c.args.text _ c.push.new.self c.in_err-course.ensures.acts)

pub returns-clause-acts : goal.returns-clause-acts
returns-clause-acts g c =
    let s = c.args.session.now in
    sent_so _ _ s.reader _ _ (c.args.procedure ∷ s.procedures) c.args.word.now c.args.text _ c.push.new.self c.answer.new.session.procedures c.in_ok-course.course _ _
    c.in-Ok.ensures.ok c.in_ok-course.ensures.acts c.answer.ensures.reader c.answer.ensures.acts

use Rattle.std.proofs.lemmas.Result.{err_from_is_err_and}
use Rattle.cms_search.proofs.Acts.{comes_none, no_memory}
use Rattle.cms_session.proofs.Statements.{issues_off, issues_so}
use Rattle.cms_session.proofs.statement.command.Goals as goal

pub returns-in_default-clause-acts : goal.returns-in_default-clause-acts
returns-in_default-clause-acts g c = no_memory _ _ _ _ _ (comes_none _ _)

pub returns-in_err-issued-clause-acts : goal.returns-in_err-issued-clause-acts
returns-in_err-issued-clause-acts g c =
    let p = err_from_is_err_and c.from_residual.result c.from_residual.ensures.1 in
    let ps = c.args.session.now.procedures in
    rw (p.1, p.2) (issues_off _ _ c.args.session.now.reader _ _ _ ps c.push.new.self c.args.procedure c.args.line.now c.len-running.result _ c.push.new.self c.in-Ok.ensures.ok c.len-running.ensures
    c.in_err-issued.ensures.acts)

pub returns-clause-acts : goal.returns-clause-acts
returns-clause-acts g c =
    let ps = c.args.session.now.procedures in
    issues_so _ _ c.args.session.now.reader _ _ _ _ _ ps c.push.new.self c.answer.new.session.procedures c.args.procedure c.args.line.now c.len-running.result c.in_ok-issued.issued _
    c.in-Ok.ensures.ok c.len-running.ensures c.in_ok-issued.ensures.acts c.answer.ensures.reader c.answer.ensures.acts

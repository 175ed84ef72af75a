use Rattle.std.proofs.Common.{◌∙◌}
use Rattle.std.proofs.lemmas.Result.{err_from_is_err_and}
use Rattle.cms_search.proofs.Acts.{comes_none, no_memory}
use Rattle.cms_session.proofs.dispatch.run_extension.Goals as goal

pub returns-in_err-line-clause-acts : goal.returns-in_err-line-clause-acts
returns-in_err-line-clause-acts g c =
    let p = err_from_is_err_and c.from_residual.result c.from_residual.ensures.1 in
    rw (p.1, p.2) (no_memory _ _ _ _ _ (comes_none _ _))

pub returns-clause-acts : goal.returns-clause-acts
returns-clause-acts g c =
    let value = c.bytes.ensures.bytes in
    let same = c.in_ok-line.ensures ∙ value in
    rw same at c.run.ensures.acts

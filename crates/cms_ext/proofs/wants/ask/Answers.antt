use Rattle.std.proofs.lemmas.Result.{err_from_is_err_and}
use Rattle.cms_ext.proofs.Meets.{asks_off, given, spent}
use Rattle.cms_ext.proofs.wants.ask.Goals as goal

pub returns-in_err-line-clause-acts : goal.returns-in_err-line-clause-acts
returns-in_err-line-clause-acts g c = λ objects.
    let p = err_from_is_err_and c.from_residual.result c.from_residual.ensures.1 in
    rw (p.1, p.2) (asks_off _ _ objects c.in_err-line.field-0.0 c.in_err-line.ensures.acts)

pub returns-in-Given-clause-acts : goal.returns-in-Given-clause-acts
returns-in-Given-clause-acts g c = λ objects. given _ _ objects c.in_ok-line.field-0 c.in-Given.line c.in_ok-line.ensures.acts c.in-Given.is

pub returns-in-Spent-clause-acts : goal.returns-in-Spent-clause-acts
returns-in-Spent-clause-acts g c = λ objects. spent _ _ objects c.in_ok-line.field-0 c.in_ok-line.ensures.acts c.in-Spent.is

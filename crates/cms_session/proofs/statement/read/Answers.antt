use Rattle.std.proofs.lemmas.Result.{err_from_is_err_and}
use Rattle.cms_session.proofs.Statements.{reads_no_memory, reads_off, reads_so, reads_spent}
use Rattle.cms_session.proofs.statement.read.Goals as goal

pub returns-in_err-line-clause-acts : goal.returns-in_err-line-clause-acts
returns-in_err-line-clause-acts g c =
    let p = err_from_is_err_and c.from_residual.result c.from_residual.ensures.1 in
    let ps = c.args.session.now.procedures in
    rw (p.1, p.2) (reads_off _ _ ps c.args.procedure _ ps c.in_err-line.ensures.acts)

pub returns-in_err-want-in-Given-clause-acts : goal.returns-in_err-want-in-Given-clause-acts
returns-in_err-want-in-Given-clause-acts g c =
    let p = err_from_is_err_and c.from_residual-in_err-want-in-Given.result c.from_residual-in_err-want-in-Given.ensures.1 in
    let ps = c.args.session.now.procedures in
    let is = c.in-Given.is in
    let asked = rw is at c.in_ok-line.ensures.acts in
    rw (p.1, p.2) (reads_no_memory _ _ ps c.args.procedure c.in-Given.line ps asked)

pub returns-in_ok-want-in-Given-clause-acts : goal.returns-in_ok-want-in-Given-clause-acts
returns-in_ok-want-in-Given-clause-acts g c =
    let ps = c.args.session.now.procedures in
    let is = c.in-Given.is in
    let asked = rw is at c.in_ok-line.ensures.acts in
    reads_so _ _ ps c.args.procedure _ c.in-Given.line c.take_line.new.self c.in_ok-want-in-Given.want _ c.follow.new.session.procedures asked
    c.in_ok-want-in-Given.ensures.step c.follow.ensures.acts

pub returns-in-Spent-clause-acts : goal.returns-in-Spent-clause-acts
returns-in-Spent-clause-acts g c =
    let ps = c.args.session.now.procedures in
    let is = c.in-Spent.is in
    let asked = rw is at c.in_ok-line.ensures.acts in
    reads_spent _ _ ps c.args.procedure ps asked

use Rattle.std.proofs.Common.{refl}
use Rattle.std.proofs.lemmas.Result.{err_from_is_err_and}
use Rattle.cms_session.proofs.Statements.{types_off, types_on_so}
use Rattle.cms_session.proofs.statement.type_lines.Goals as goal

pub returns-in_err-say_lines-clause-acts : goal.returns-in_err-say_lines-clause-acts
returns-in_err-say_lines-clause-acts g c =
    let p = err_from_is_err_and c.from_residual.result c.from_residual.ensures.1 in
    let ps = c.args.session.now.procedures in
    rw (p.1, p.2) (types_off _ _ ps c.args.procedure c.args.lines.now _ ps c.in_err-say_lines.ensures refl)

pub returns-clause-acts : goal.returns-clause-acts
returns-clause-acts g c =
    let ps = c.args.session.now.procedures in
    types_on_so _ _ ps c.args.procedure c.args.lines.now _ _ _ c.go_on.new.session.procedures c.in_ok-say_lines.ensures refl c.go_on.ensures.acts

use Rattle.std.proofs.Common.{rules, w32, FitsSigned}
use Rattle.std.proofs.lemmas.Int.{to_z-of_z}
use Rattle.std.proofs.lemmas.Result.{err_from_is_err_and}
use Rattle.cms_search.proofs.Says.{not_done}
use Rattle.cms_session.proofs.Statements.{does_here, settled_so}
use Rattle.cms_session.proofs.statement.settle.Goals as goal

pub returns-in_err-want-clause-does : goal.returns-in_err-want-clause-does
returns-in_err-want-clause-does g c =
    let p = err_from_is_err_and c.from_residual.result c.from_residual.ensures.1 in
    rw (p.1, p.2) (not_done _ _ _)

pub returns-in_err-code-clause-does : goal.returns-in_err-code-clause-does
returns-in_err-code-clause-does g c =
    let p = err_from_is_err_and c.from_residual-in_err-code.result c.from_residual-in_err-code.ensures.1 in
    let is = settled_so c.args.procedure c.settle.new.self c.moment-moment.result c.in_ok-want.want c.moment-moment.ensures c.in_ok-want.ensures.step in
    rw (p.1, p.2, is) c.in_err-code.ensures

pub returns-in-Some-clause-does : goal.returns-in-Some-clause-does
returns-in-Some-clause-does g c =
    let is = settled_so c.args.procedure c.settle.new.self c.moment-moment.result c.in_ok-want.want c.moment-moment.ensures c.in_ok-want.ensures.step in
    let some = c.in-Some.is in
    let does = rw some at c.in_ok-code.ensures in
    let fits : FitsSigned w32 c.in-Some.code = search rules in
    let same = to_z-of_z w32 c.in-Some.code fits in
    rw (is, same) does

pub returns-in_default-clause-does : goal.returns-in_default-clause-does
returns-in_default-clause-does g c =
    let is = settled_so c.args.procedure c.settle.new.self c.moment-moment.result c.in_ok-want.want c.moment-moment.ensures c.in_ok-want.ensures.step in
    rw is (does_here _ _ _ _ _ _ c.in_ok-code.ensures)

pub returns-in-Ok-clause-does : goal.returns-in-Ok-clause-does
returns-in-Ok-clause-does g c =
    let is = settled_so c.args.procedure c.settle.new.self c.moment-moment.result c.in_ok-want.want c.moment-moment.ensures c.in_ok-want.ensures.step in
    let none = c.in-None.is in
    let does = rw none at c.in_ok-code.ensures in
    rw is does

pub returns-in-Ok-clause-procedures : goal.returns-in-Ok-clause-procedures
returns-in-Ok-clause-procedures g c =
    let is = settled_so c.args.procedure c.settle.new.self c.moment-moment.result c.in_ok-want.want c.moment-moment.ensures c.in_ok-want.ensures.step in
    rw is c.in-Ok.ensures.ok

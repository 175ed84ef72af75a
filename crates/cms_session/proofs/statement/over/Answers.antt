use Rattle.std.proofs.Common.{rules, w32, FitsSigned, Some, ap}
use Rattle.std.specs.Prelude.{pos, ◌+◌}
use Rattle.std.proofs.lemmas.Int.{to_z-of_z}
use Rattle.std.proofs.lemmas.Result.{err_from_is_err_and}
use Rattle.cms_exec.specs.Exec.{stopped_code}
use Rattle.cms_search.specs.Calls.{itself}
use Rattle.cms_session.proofs.Statements.{said_off, said_so}
use Rattle.cms_session.proofs.statement.over.Goals as goal

pub returns-in_err-tell_stop-in-Failed : goal.returns-in_err-tell_stop-in-Failed
returns-in_err-tell_stop-in-Failed g c =
    let p = err_from_is_err_and c.from_residual.result c.from_residual.ensures.1 in
    let is = c.in-Failed.is in
    rw (p.1, p.2, is) (said_off _ _ _ (Some (pos (stopped_code + c.in-Failed.number))) _ itself c.in_err-tell_stop-in-Failed.ensures)

pub returns-in_ok-tell_stop-in-Failed : goal.returns-in_ok-tell_stop-in-Failed
returns-in_ok-tell_stop-in-Failed g c =
    let is = c.in-Failed.is in
    let fits : FitsSigned w32 c.code_of.result = search rules in
    let same = to_z-of_z w32 c.code_of.result fits in
    rw (is, same) (said_so _ _ _ (Some (pos (stopped_code + c.in-Failed.number))) _ (Some c.code_of.result) itself c.in_ok-tell_stop-in-Failed.ensures (ap Some c.code_of.ensures))

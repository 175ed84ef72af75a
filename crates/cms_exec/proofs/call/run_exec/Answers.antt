use Rattle.std.proofs.Common.{refl}
use Rattle.std.proofs.lemmas.Result.{err_from_is_err_and}
use Rattle.cms_search.specs.Calls.{spot}
use Rattle.cms_search.proofs.StateCalls.{acts_starved}
use Rattle.cms_exec.proofs.Starts.{operand_read, operand_refused}
use Rattle.cms_exec.proofs.call.run_exec.Goals as goal

pub returns-in_err-called : goal.returns-in_err-called
returns-in_err-called g c =
    let p = err_from_is_err_and c.from_residual.result c.from_residual.ensures.1 in
    rw (p.1, p.2) (acts_starved _ _ _)

pub returns-in-Ok : goal.returns-in-Ok
returns-in-Ok g c =
    let s = c.args.state.now in
    let words = c.as_slice.ensures in
    let again = c.as_slice-2.ensures in
    operand_read (spot g.W.World c.args.world.now s) (spot g.W.World c.start_named.new.world s) c.args.running c.args.line.now c.args.words.now c.in_ok-called.called c.in-Ok.file
    c.start_named.result (rw words at c.in_ok-called.ensures) (rw again at c.in-Ok.ensures) c.start_named.ensures

pub returns : goal.returns
returns g c =
    let s = c.args.state.now in
    let again = c.as_slice-2.ensures in
    let third = c.as_slice-in-Err.ensures in
    operand_refused (spot g.W.World c.args.world.now s) (spot g.W.World c.refuse_line.new.world s) c.args.running c.args.line.now c.args.words.now c.in_ok-called.called c.in-Err.why
    c.refuse_line.result c.refused.result (rw again at c.in-Err.ensures) (rw third at c.refuse_line.ensures.does) c.refuse_line.ensures.went refl c.refused.ensures

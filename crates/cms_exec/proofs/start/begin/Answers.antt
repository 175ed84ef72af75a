use Rattle.std.proofs.Common.{refl}
use Rattle.std.proofs.lemmas.Result.{err_from_is_err_and}
use Rattle.cms_search.specs.Calls.{spot}
use Rattle.cms_search.proofs.StateCalls.{acts_starved}
use Rattle.cms_exec.proofs.Starts.{has_begun, is_none}
use Rattle.cms_exec.proofs.start.begin.Goals as goal

pub returns-in_ok-start-in-Ok : goal.returns-in_ok-start-in-Ok
returns-in_ok-start-in-Ok g c =
    has_begun (spot g.W.World c.args.world.now c.args.state.now) c.args.called.now c.args.found.now c.args.file.now c.requires.valid c.in-Ok.procedure _
    c.in-Ok.ensures.lines c.in_ok-start-in-Ok.ensures

pub returns-in_err-start-in-Ok : goal.returns-in_err-start-in-Ok
returns-in_err-start-in-Ok g c =
    let p = err_from_is_err_and c.from_residual.result c.from_residual.ensures.1 in
    rw (p.1, p.2) (acts_starved _ _ _)

pub returns-in-Memory : goal.returns-in-Memory
returns-in-Memory g c = acts_starved _ _ _

pub returns-in_default : goal.returns-in_default
returns-in_default g c =
    let number = c.reason_of.ensures.number in
    is_none (spot g.W.World c.args.world.now c.args.state.now) c.args.called.now c.args.found.now c.args.file.now c.requires.valid
    (spot g.W.World c.refuse_not_run.new.world c.args.state.now) c.in-Err.fault c.refuse_not_run.result c.refused.result c.in-Err.ensures.fault c.in_default.not-Memory
    (rw number at c.refuse_not_run.ensures.does) (rw number at c.refuse_not_run.ensures.went) refl c.refused.ensures

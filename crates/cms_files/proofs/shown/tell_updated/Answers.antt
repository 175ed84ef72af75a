use Rattle.std.proofs.Common.{refl}
use Rattle.std.proofs.lemmas.Result.{err_from_is_err_and}
use Rattle.cms_files.proofs.Updates.{tell_cut, tell_said, tell_stopped}
use Rattle.cms_files.proofs.shown.tell_updated.Goals as goal

pub returns-in-Stopped : goal.returns-in-Stopped
returns-in-Stopped g c = tell_stopped _ c.args.types c.args.line.now c.args.updated c.in-Stopped.course c.in-Stopped.is

pub returns-in_err-say-in-Done : goal.returns-in_err-say-in-Done
returns-in_err-say-in-Done g c =
    let p = err_from_is_err_and c.from_residual.result c.from_residual.ensures.1 in
    rw (p.1, p.2) (tell_cut _ _ c.args.types c.args.line.now c.args.updated c.in_err-say-in-Done.field-0.0 c.if-types.true c.in-Done.is c.in_err-say-in-Done.ensures refl)

pub returns-in_ok-say-in-Done : goal.returns-in_ok-say-in-Done
returns-in_ok-say-in-Done g c =
    tell_said _ _ c.args.types c.args.line.now c.args.updated c.in_ok-say-in-Done.field-0 c.if-types.true c.in-Done.is c.in_ok-say-in-Done.ensures refl

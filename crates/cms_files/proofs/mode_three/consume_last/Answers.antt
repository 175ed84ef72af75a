use Rattle.std.proofs.lemmas.Result.{err_from_is_err_and}
use Rattle.cms_files.proofs.LastUpdates.{update_ended, update_off, update_over}
use Rattle.cms_files.proofs.mode_three.consume_last.Goals as goal

pub returns-in_err-consume_told-clause-acts : goal.returns-in_err-consume_told-clause-acts
returns-in_err-consume_told-clause-acts g c =
    let p = err_from_is_err_and c.from_residual.result c.from_residual.ensures.1 in
    rw (p.1, p.2) (update_off _ _ _ c.in_err-consume_told.field-0.0 c.in_err-consume_told.ensures.acts)

pub returns-in-Done-clause-acts : goal.returns-in-Done-clause-acts
returns-in-Done-clause-acts g c = update_over _ _ _ c.in_ok-consume_told.field-0 c.in_ok-consume_told.ensures.acts c.in-Done.is

pub returns-in-Stopped-clause-acts : goal.returns-in-Stopped-clause-acts
returns-in-Stopped-clause-acts g c = update_ended _ _ _ c.in_ok-consume_told.field-0 c.in-Stopped.course c.in_ok-consume_told.ensures.acts c.in-Stopped.is

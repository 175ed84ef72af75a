use Rattle.std.proofs.lemmas.Result.{err_from_is_err_and}
use Rattle.cms_files.proofs.LastUpdates.{update_ended, update_off, update_over}
use Rattle.cms_files.proofs.write.write_last.Goals as goal

pub returns-in_err-write_file-clause-acts : goal.returns-in_err-write_file-clause-acts
returns-in_err-write_file-clause-acts g c = λ records stands.
    let p = err_from_is_err_and c.from_residual.result c.from_residual.ensures.1 in
    rw (p.1, p.2) (update_off _ _ _ c.in_err-write_file.field-0.0 (c.in_err-write_file.ensures.acts records stands))

pub returns-in-Done-clause-acts : goal.returns-in-Done-clause-acts
returns-in-Done-clause-acts g c = λ records stands. update_over _ _ _ c.in_ok-write_file.field-0 (c.in_ok-write_file.ensures.acts records stands) c.in-Done.is

pub returns-in-Stopped-clause-acts : goal.returns-in-Stopped-clause-acts
returns-in-Stopped-clause-acts g c = λ records stands.
    update_ended _ _ _ c.in_ok-write_file.field-0 c.in-Stopped.course (c.in_ok-write_file.ensures.acts records stands) c.in-Stopped.is

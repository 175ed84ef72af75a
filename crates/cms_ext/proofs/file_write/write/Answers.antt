use Rattle.std.proofs.Common.{refl, arith}
use Rattle.std.proofs.lemmas.Result.{err_from_is_err_and}
use Rattle.cms_search.specs.Calls.{spot}
use Rattle.cms_search.proofs.Acts.{cut_off}
use Rattle.cms_ext.proofs.Puts.{puts, puts_done, puts_off, puts_stopped}
use Rattle.cms_ext.proofs.file_write.write.Goals as goal

pub returns-in_err-file-clause-acts : goal.returns-in_err-file-clause-acts
returns-in_err-file-clause-acts g c = λ objects.
    let p = err_from_is_err_and c.from_residual.result c.from_residual.ensures.1 in
    let old = spot g.W.World c.args.world.now c.args.state.now in
    rw (p.1, p.2) (cut_off old old (puts old old objects c.args.name.now c.args.letter c.args.records.now) _ refl (omega arith) (omega arith) refl)

pub returns-in_err-write_file-clause-acts : goal.returns-in_err-write_file-clause-acts
returns-in_err-write_file-clause-acts g c = λ objects.
    let p = err_from_is_err_and c.from_residual-in_err-write_file.result c.from_residual-in_err-write_file.ensures.1 in
    rw (p.1, p.2) (puts_off _ _ objects c.args.name.now c.args.letter c.args.records.now c.form_of-form.result c.of-stamp.result c.in_ok-file.file
    c.form_of-form.ensures.form c.of-stamp.ensures.value c.in_ok-file.ensures c.in_err-write_file.field-0.0
    (c.in_err-write_file.ensures.acts _ c.in_ok-file.ensures.stands))

pub returns-in-Done-clause-acts : goal.returns-in-Done-clause-acts
returns-in-Done-clause-acts g c = λ objects.
    puts_done _ _ objects c.args.name.now c.args.letter c.args.records.now c.form_of-form.result c.of-stamp.result c.in_ok-file.file
    c.form_of-form.ensures.form c.of-stamp.ensures.value c.in_ok-file.ensures c.in_ok-write_file.field-0
    (c.in_ok-write_file.ensures.acts _ c.in_ok-file.ensures.stands) c.in-Done.is

pub returns-clause-acts : goal.returns-clause-acts
returns-clause-acts g c = λ objects.
    puts_stopped _ _ objects c.args.name.now c.args.letter c.args.records.now c.form_of-form.result c.of-stamp.result c.in_ok-file.file
    c.form_of-form.ensures.form c.of-stamp.ensures.value c.in_ok-file.ensures c.in_ok-write_file.field-0 c.in-Stopped.course c.refused.result
    (c.in_ok-write_file.ensures.acts _ c.in_ok-file.ensures.stands) c.in-Stopped.is c.refused.ensures

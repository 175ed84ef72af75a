use Rattle.std.proofs.lemmas.Result.{err_from_is_err_and}
use Rattle.cms_model.specs.Changes.{Relabel}
use Rattle.cms_search.specs.Calls.{course_of}
use Rattle.cms_search.specs.ChangeTold.{change_told}
use Rattle.cms_search.specs.DeviceSteps.{changing_of, changing_tree}
use Rattle.cms_search.proofs.Acts.{acts_stop}
use Rattle.cms_access.proofs.Questioned.{acts_bind}
use Rattle.cms_access.proofs.format.relabel_as.Goals as goal

pub returns-in_err-changed-clause-acts : goal.returns-in_err-changed-clause-acts
returns-in_err-changed-clause-acts g c =
    let p = err_from_is_err_and c.from_residual.result c.from_residual.ensures.1 in
    rw (p.1, p.2) (acts_stop _ _ (changing_tree c.args.state.now c.args.letter (Relabel c.args.volid)) (change_told c.args.letter) _ (changing_of c.change_disk.new.state)
    (course_of c.change_disk.new.state) c.in_err-changed.ensures.acts)

pub returns-clause-acts : goal.returns-clause-acts
returns-clause-acts g c =
    acts_bind _ _ _ (changing_tree c.args.state.now c.args.letter (Relabel c.args.volid)) (change_told c.args.letter) c.in_ok-changed.changed (changing_of c.change_disk.new.state) _
    (course_of c.change_disk.new.state) c.in_ok-changed.ensures.acts c.tell_change.ensures

use Rattle.std.proofs.lemmas.Result.{err_from_is_err_and}
use Rattle.cms_model.specs.Changes.{Century}
use Rattle.cms_search.specs.Calls.{course_of}
use Rattle.cms_search.specs.ChangeTold.{change_told}
use Rattle.cms_search.specs.DeviceSteps.{changing_of, changing_tree}
use Rattle.cms_search.proofs.Acts.{acts_stop}
use Rattle.cms_access.proofs.Questioned.{acts_bind}
use Rattle.cms_access.proofs.century.move_stamps.Goals as goal

pub returns-in_err-changed-clause-acts : goal.returns-in_err-changed-clause-acts
returns-in_err-changed-clause-acts g c =
    let line = c.args.line in
    let p = err_from_is_err_and c.from_residual.result c.from_residual.ensures.1 in
    rw (p.1, p.2) (acts_stop _ _ (changing_tree c.args.state.now line.letter (Century line.pivot)) (change_told line.letter) _ (changing_of c.change_disk.new.state)
    (course_of c.change_disk.new.state) c.in_err-changed.ensures.acts)

pub returns-clause-acts : goal.returns-clause-acts
returns-clause-acts g c =
    let line = c.args.line in
    acts_bind _ _ _ (changing_tree c.args.state.now line.letter (Century line.pivot)) (change_told line.letter) c.in_ok-changed.changed (changing_of c.change_disk.new.state) _
    (course_of c.change_disk.new.state) c.in_ok-changed.ensures.acts c.tell_change.ensures

use Rattle.std.proofs.lemmas.Result.{err_from_is_err_and}
use Rattle.cms_search.proofs.Lined.{does_said, does_unsaid}
use Rattle.cms_access.proofs.query.tell_search.Goals as goal

pub returns-in_err-type_disks-clause-does : goal.returns-in_err-type_disks-clause-does
returns-in_err-type_disks-clause-does g c =
    let p = err_from_is_err_and c.from_residual.result c.from_residual.ensures.1 in
    rw (p.1, p.2) (does_unsaid _ _ _ _ c.in_err-type_disks.ensures)

pub returns-clause-does : goal.returns-clause-does
returns-clause-does g c = does_said _ _ _ c.in_ok-type_disks.field-0 _ c.in_ok-type_disks.ensures

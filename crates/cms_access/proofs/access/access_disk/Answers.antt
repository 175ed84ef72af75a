use Rattle.std.proofs.lemmas.Result.{err_from_is_err_and}
use Rattle.cms_search.specs.Calls.{spot}
use Rattle.cms_access.proofs.AccessRuns.{access_cut, access_told}
use Rattle.cms_access.proofs.access.access_disk.Goals as goal

pub returns-clause-acts : goal.returns-clause-acts
returns-clause-acts g c =
    let line = c.args.line in
    access_told (spot g.W.World c.args.world.now c.args.state.now) _ _ line.vdev line.mode.letter line.mode.ext c.in_ok-end.end c.tell.result c.in_ok-end.ensures.acts c.tell.ensures

pub returns-in_err-end-clause-acts : goal.returns-in_err-end-clause-acts
returns-in_err-end-clause-acts g c =
    let p = err_from_is_err_and c.from_residual.result c.from_residual.ensures.1 in
    let line = c.args.line in
    rw (p.1, p.2) (access_cut (spot g.W.World c.args.world.now c.args.state.now) _ line.vdev line.mode.letter line.mode.ext _ c.in_err-end.ensures.acts)

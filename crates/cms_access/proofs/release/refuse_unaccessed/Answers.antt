use Rattle.std.proofs.lemmas.Result.{err_from_is_err_and}
use Rattle.cms_search.proofs.StateCalls.{acts_starved}
use Rattle.cms_access.proofs.Releases.{unaccessed}
use Rattle.cms_access.proofs.release.refuse_unaccessed.Goals as goal

pub returns-in_err-device : goal.returns-in_err-device
returns-in_err-device g c =
    let p = err_from_is_err_and c.from_residual.result c.from_residual.ensures.1 in
    rw (p.1, p.2) (acts_starved _ _ _)

pub returns : goal.returns
returns g c =
    let e = c.in_ok-device.ensures in
    unaccessed _ _ c.args.state.now c.args.vdev c.refuse.result (rw e at c.refuse.ensures.does) c.refuse.ensures.went

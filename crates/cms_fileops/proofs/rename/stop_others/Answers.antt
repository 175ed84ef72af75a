use Rattle.std.proofs.lemmas.Result.{err_from_is_err_and}
use Rattle.cms_search.proofs.StateCalls.{acts_starved}
use Rattle.cms_fileops.proofs.rename.stop_others.Goals as goal

pub returns-in_err-mode : goal.returns-in_err-mode
returns-in_err-mode g c =
    let p = err_from_is_err_and c.from_residual.result c.from_residual.ensures.1 in
    rw (p.1, p.2) (acts_starved _ _ _)

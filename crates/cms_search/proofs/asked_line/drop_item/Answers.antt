use Rattle.std.proofs.lemmas.Result.{err_from_is_err_and}
use Rattle.cms_search.proofs.Talks.{drop_goes, drop_stops}
use Rattle.cms_search.proofs.asked_line.drop_item.Goals as goal

pub returns-in_err-clock : goal.returns-in_err-clock
returns-in_err-clock g c = λ k.
    let p = err_from_is_err_and c.from_residual.result c.from_residual.ensures.1 in
    rw (p.1, p.2) (drop_stops _ _ k _ _ c.in_err-clock.ensures)

pub returns : goal.returns
returns g c = λ k. drop_goes _ _ _ k _ c.in_ok-clock.field-0 c.complain.result c.in_ok-clock.ensures c.complain.ensures

use Rattle.std.proofs.Common.{◌∙◌}
use Rattle.std.proofs.lemmas.Result.{err_from_is_err_and}
use Rattle.cms_search.proofs.Says.{not_done}
use Rattle.cms_search.proofs.Lined.{said_one}
use Rattle.cms_access.proofs.Queries.{none_told, one_told}
use Rattle.cms_access.proofs.shown.type_disk.Goals as goal

pub returns-in_default : goal.returns-in_default
returns-in_default g c = none_told c.args.shown _ c.args.table.now c.args.letter tt (c.seat.ensures.none.0 c.in_default.is)

pub returns-in_err-line : goal.returns-in_err-line
returns-in_err-line g c =
    let p = err_from_is_err_and c.from_residual.result c.from_residual.ensures.1 in
    rw (p.1, p.2) (not_done _ _ _)

pub returns : goal.returns
returns g c =
    said_one _ _ c.deref.result.now _ c.say.result
    (one_told c.args.shown c.args.table.now c.args.letter c.in-Some.seat c.in-Some-disk.disk.now c.deref.result.now c.in-Some.ensures.some
    c.in-Some-disk.ensures (λ s parent only disk. c.deref.ensures.value ∙ c.in_ok-line.ensures s parent only disk))
    c.say.ensures

use Rattle.std.proofs.Common.{rules, w64, FitsSigned}
use Rattle.std.proofs.lemmas.Int.{to_z-of_z}
use Rattle.cms_search.proofs.Talks.{clock_told, clock_failed}
use Rattle.cms_search.proofs.asked_line.clock.Goals as goal

pub returns-in-Ok : goal.returns-in-Ok
returns-in-Ok g c =
    let fits : FitsSigned w64 c.in-Ok.seconds = search rules in
    let same = to_z-of_z w64 c.in-Ok.seconds fits in
    rw same (clock_told _ _ c.in-Ok.seconds c.in-Ok.ensures.now c.in-Ok.ensures.faults c.in-Ok.ensures.cause.later)

pub returns-in-Err : goal.returns-in-Err
returns-in-Err g c = clock_failed _ _ _ c.in-Err.ensures.failed c.in-Err.ensures.faults c.in-Err.ensures.cause.later c.in-Err.ensures.cause.failed

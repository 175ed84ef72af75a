use Rattle.cms_search.proofs.Says.{said_line}
use Rattle.cms_search.proofs.output.say.Goals as goal

pub returns-in-Ok : goal.returns-in-Ok
returns-in-Ok g c = said_line _ _ c.args.line.now _ c.in-Ok.ensures.ok tt c.in-Ok.ensures.faults c.in-Ok.ensures.cause.later tt

pub returns-in-Err : goal.returns-in-Err
returns-in-Err g c =
    said_line _ _ c.args.line.now _ tt c.in-Err.ensures.err c.in-Err.ensures.faults c.in-Err.ensures.cause.later (λ edge. c.in-Err.ensures.cause.failed)

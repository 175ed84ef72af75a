use Rattle.mini_work.specs.declared.fault.Fault.TheVariants as fault
use Rattle.mini_work.proofs.Caused.{cause_done, edges_failed, edges_later}
use Rattle.mini_work.proofs.output.say_line.Goals as goal

pub returns-in-Ok-clause-cause : goal.returns-in-Ok-clause-cause
returns-in-Ok-clause-cause g c = λ n. cause_done _ _ _ (edges_later _ _ _ _ _ c.in-Ok.ensures.faults c.in-Ok.ensures.cause.later)

pub returns-in-Err-clause-cause : goal.returns-in-Err-clause-cause
returns-in-Err-clause-cause g c =
    λ n. edges_failed _ _ fault.Output (edges_later _ _ _ _ _ c.in-Err.ensures.faults c.in-Err.ensures.cause.later) c.in-Err.ensures.cause.failed

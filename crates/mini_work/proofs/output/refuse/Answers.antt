use Rattle.mini_work.specs.declared.fault.Fault.TheVariants as fault
use Rattle.mini_work.proofs.Caused.{cause_done, cause_memory, host_failed, host_later, later_same}
use Rattle.mini_work.proofs.output.refuse.Goals as goal

pub returns-in_err-word-clause-cause : goal.returns-in_err-word-clause-cause
returns-in_err-word-clause-cause g c = λ k. cause_memory _ _ c.from_residual.result c.from_residual.ensures.1 (later_same _)

pub returns-in-Ok-clause-cause : goal.returns-in-Ok-clause-cause
returns-in-Ok-clause-cause g c = λ k. cause_done _ _ _ (host_later k _ _ c.in-Ok.ensures.cause.later)

pub returns-in-Err-clause-cause : goal.returns-in-Err-clause-cause
returns-in-Err-clause-cause g c = λ k. host_failed k _ _ fault.Host c.in-Err.ensures.cause.later c.in-Err.ensures.cause.failed

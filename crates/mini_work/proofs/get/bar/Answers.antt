use Rattle.mini_work.proofs.Caused.{cause_done, cause_fails, later_same}
use Rattle.mini_work.proofs.get.bar.Goals as goal

pub returns-in_err-refuse-clause-cause : goal.returns-in_err-refuse-clause-cause
returns-in_err-refuse-clause-cause g c = λ k. let x = c.in_err-refuse.ensures.cause k in cause_fails _ _ _ c.in_err-refuse.field-0.0 c.from_residual.result (later_same _) c.from_residual.ensures.1 x.later x.failed

pub returns-clause-cause : goal.returns-clause-cause
returns-clause-cause g c = λ k. cause_done _ _ _ (c.in_ok-refuse.ensures.cause k).later

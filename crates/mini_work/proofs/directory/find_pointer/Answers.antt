use Rattle.mini_work.proofs.Caused.{cause_done, cause_fails, later_same}
use Rattle.mini_work.proofs.directory.find_pointer.Goals as goal

pub returns-in_err-pointers-clause-cause : goal.returns-in_err-pointers-clause-cause
returns-in_err-pointers-clause-cause g c = λ n. let x = c.in_err-pointers.ensures.cause n in cause_fails _ _ _ c.in_err-pointers.field-0.0 c.from_residual.result (later_same _) c.from_residual.ensures.1 x.later x.failed

pub returns-in-Some-clause-cause : goal.returns-in-Some-clause-cause
returns-in-Some-clause-cause g c = λ n. cause_done _ _ _ (c.in_ok-pointers.ensures.cause n).later

pub returns-in-None-clause-cause : goal.returns-in-None-clause-cause
returns-in-None-clause-cause g c = λ n. cause_done _ _ _ (c.in_ok-pointers.ensures.cause n).later

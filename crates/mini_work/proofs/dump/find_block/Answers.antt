use Rattle.mini_work.proofs.Caused.{cause_done, cause_fails, later_same, later_then}
use Rattle.mini_work.specs.Causes.{counts}
use Rattle.mini_work.proofs.dump.find_block.Goals as goal

pub returns-in_err-bytes-clause-cause : goal.returns-in_err-bytes-clause-cause
returns-in_err-bytes-clause-cause g c = let x = c.in_err-bytes.ensures.cause (g.H.Host.faults c.args.host.now) in cause_fails _ _ _ c.in_err-bytes.field-0.0 c.from_residual.result (later_same _) c.from_residual.ensures.1 x.later x.failed

pub returns-in-Some-clause-cause : goal.returns-in-Some-clause-cause
returns-in-Some-clause-cause g c = cause_done _ _ _ (c.in_ok-bytes.ensures.cause (g.H.Host.faults c.args.host.now)).later

pub returns-in_err-refuse-in-None-clause-cause : goal.returns-in_err-refuse-in-None-clause-cause
returns-in_err-refuse-in-None-clause-cause g c = let at = counts g.W.World g.H.Host in let x = c.in_err-refuse-in-None.ensures.cause (at c.read_any.new.world c.args.host.now) in cause_fails _ _ _ c.in_err-refuse-in-None.field-0.0 c.from_residual-in_err-refuse-in-None.result (c.in_ok-bytes.ensures.cause (g.H.Host.faults c.args.host.now)).later c.from_residual-in_err-refuse-in-None.ensures.1 x.later x.failed

pub returns-in_ok-refuse-in-None-clause-cause : goal.returns-in_ok-refuse-in-None-clause-cause
returns-in_ok-refuse-in-None-clause-cause g c = let at = counts g.W.World g.H.Host in cause_done _ _ _ (later_then _ _ _ (c.in_ok-bytes.ensures.cause (g.H.Host.faults c.args.host.now)).later (c.in_ok-refuse-in-None.ensures.cause (at c.read_any.new.world c.args.host.now)).later)

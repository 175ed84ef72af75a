use Rattle.mini_work.specs.Causes.{counts}
use Rattle.mini_work.proofs.Caused.{cause_done, host_failed, host_later}
use Rattle.mini_work.specs.declared.fault.Fault.TheVariants as fault
use Rattle.mini_work.proofs.handed_file.put_out.Goals as goal

pub returns-in-Output-clause-cause : goal.returns-in-Output-clause-cause
returns-in-Output-clause-cause g c = c.type_bytes.ensures.cause (g.H.Host.faults c.args.host.now)

pub returns-in-Ok-clause-cause : goal.returns-in-Ok-clause-cause
returns-in-Ok-clause-cause g c = let at = counts g.W.World g.H.Host in cause_done _ _ _ (host_later (at c.args.world.now c.args.host.now) _ _ c.in-Ok.ensures.cause.later)

pub returns-in-Err-clause-cause : goal.returns-in-Err-clause-cause
returns-in-Err-clause-cause g c = let at = counts g.W.World g.H.Host in host_failed (at c.args.world.now c.args.host.now) _ _ fault.Host c.in-Err.ensures.cause.later c.in-Err.ensures.cause.failed

use Rattle.mini_work.specs.Causes.{counts, is_failed}
use Rattle.mini_work.proofs.Caused.{failure_left, host_later, one_kept}
use Rattle.mini_work.specs.declared.status.Status.{Status}
use Rattle.std.proofs.Common.{Err, Ok, refl, ap}
use Rattle.mini_work.proofs.Done.{done_failed}
use Rattle.mini_work.proofs.command.work.Goals as goal

pub returns-in-Ok-clause-goes : goal.returns-in-Ok-clause-goes
returns-in-Ok-clause-goes g c = λ is. (Ok c.in-Ok.status, refl, c.in-Ok.ensures.goes is)

pub returns-in_default-clause-goes : goal.returns-in_default-clause-goes
returns-in_default-clause-goes g c = λ is.
    (Err c.in-Err.fault, refl, done_failed c.args.request.now _ (g.H.Host.told c.carry_out.new.host) (g.H.Host.told c.say_fault.new.host) _ c.in-Err.fault (c.in-Err.ensures.goes is))

pub returns-in-Ok-clause-cause : goal.returns-in-Ok-clause-cause
returns-in-Ok-clause-cause g c = λ t is. (c.in-Ok.ensures.cause t).failed (ap (λ (s : Status). is_failed (Ok s)) is)

pub returns-in_default-clause-cause : goal.returns-in_default-clause-cause
returns-in_default-clause-cause g c = λ t is. let at = counts g.W.World g.H.Host in let x = c.in-Err.ensures.cause t in one_kept _ _ _ (x.failed (c.say_fault.ensures.cause (failure_left c.say_fault.result c.in_default.not-Memory))) (host_later (at c.carry_out.new.world c.carry_out.new.host) _ _ c.say_fault.ensures.later)

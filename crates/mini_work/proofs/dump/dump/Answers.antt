use Rattle.mini_work.specs.Causes.{counts}
use Rattle.mini_work.proofs.Caused.{end_fails, end_refused, end_then, later_same, later_then}
use Rattle.mini_work.proofs.LoneUnit.{unwritten_new, unwritten_types}
use Rattle.mini_work.proofs.dump.dump.Goals as goal

pub returns-in_err-size-clause-goes : goal.returns-in_err-size-clause-goes
returns-in_err-size-clause-goes g c = λ is. unwritten_new (g.W.World.told c.args.world.now) is

pub returns-in-None-clause-goes : goal.returns-in-None-clause-goes
returns-in-None-clause-goes g c = λ is. unwritten_new (g.W.World.told c.args.world.now) is

pub returns-in_err-unit-in-Some-clause-goes : goal.returns-in_err-unit-in-Some-clause-goes
returns-in_err-unit-in-Some-clause-goes g c = λ is. c.in_err-unit-in-Some.ensures.unwritten is

pub returns-in_ok-unit-in-Some-clause-goes : goal.returns-in_ok-unit-in-Some-clause-goes
returns-in_ok-unit-in-Some-clause-goes g c = λ is. unwritten_types _ _ c.dump_unit.ensures.goes (c.in_ok-unit-in-Some.ensures.unwritten is)

pub returns-in_err-size-clause-cause : goal.returns-in_err-size-clause-cause
returns-in_err-size-clause-cause g c = let at = counts g.W.World g.H.Host in let x = c.in_err-size.ensures.cause (at c.args.world.now c.args.host.now) in end_fails _ _ _ c.in_err-size.field-0.0 c.from_residual.result (later_same _) c.from_residual.ensures.1 x.later x.failed

pub returns-in-None-clause-cause : goal.returns-in-None-clause-cause
returns-in-None-clause-cause g c = let at = counts g.W.World g.H.Host in end_refused _ _ (c.in_ok-size.ensures.cause (at c.args.world.now c.args.host.now)).later

pub returns-in_err-unit-in-Some-clause-cause : goal.returns-in_err-unit-in-Some-clause-cause
returns-in_err-unit-in-Some-clause-cause g c = let at = counts g.W.World g.H.Host in let x = c.in_err-unit-in-Some.ensures.cause (g.H.Host.faults c.find_size.new.host) in end_fails _ _ _ c.in_err-unit-in-Some.field-0.0 c.from_residual-in_err-unit-in-Some.result (c.in_ok-size.ensures.cause (at c.args.world.now c.args.host.now)).later c.from_residual-in_err-unit-in-Some.ensures.1 x.later x.failed

pub returns-in_ok-unit-in-Some-clause-cause : goal.returns-in_ok-unit-in-Some-clause-cause
returns-in_ok-unit-in-Some-clause-cause g c = let at = counts g.W.World g.H.Host in end_then _ _ _ _ (later_then _ _ _ (c.in_ok-size.ensures.cause (at c.args.world.now c.args.host.now)).later (c.in_ok-unit-in-Some.ensures.cause (g.H.Host.faults c.find_size.new.host)).later) (c.dump_unit.ensures.cause)

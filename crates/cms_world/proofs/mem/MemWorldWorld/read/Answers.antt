use Rattle.std.proofs.Common.{refl}
use Rattle.cms_world.proofs.Calls.{cause_none}
use Rattle.cms_world.proofs.mem.MemWorldWorld.read.Goals as goal

pub returns-then-is_ok-clause-cause : goal.returns-then-is_ok-clause-cause
returns-then-is_ok-clause-cause c = cause_none _

pub returns-then-is_ok-clause-faults : goal.returns-then-is_ok-clause-faults
returns-then-is_ok-clause-faults c = refl

pub returns-then-is_ok-clause-rest : goal.returns-then-is_ok-clause-rest
returns-then-is_ok-clause-rest c = rw (c.advance.ensures, c.in-Goes.ensures.failing) refl

pub returns-then-is_ok-clause-called : goal.returns-then-is_ok-clause-called
returns-then-is_ok-clause-called c = record { ok = c.in-Goes.ensures.next.called; unplanned = c.in-Goes.ensures.next.planned; err = tt }

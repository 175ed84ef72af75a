use Rattle.std.proofs.Common.{refl}
use Rattle.cms_world.proofs.Calls.{cause_none}
use Rattle.cms_world.proofs.mem.MemWorldWorld.now.Goals as goal

pub returns-clause-cause : goal.returns-clause-cause
returns-clause-cause c = cause_none _

pub returns-clause-faults : goal.returns-clause-faults
returns-clause-faults c = refl

pub returns-clause-called : goal.returns-clause-called
returns-clause-called c = record { ok = c.in-Goes.ensures.next.called; unplanned = c.in-Goes.ensures.next.planned; err = tt }

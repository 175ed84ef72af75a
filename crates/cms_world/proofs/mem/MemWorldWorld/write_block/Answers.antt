use Rattle.std.proofs.Common.{Some, refl, sym, ap, ◌∙◌}
use Rattle.cms_world.proofs.Calls.{cause_none, ok_holds}
use Rattle.cms_world.proofs.mem.MemWorldWorld.write_block.Goals as goal

pub returns-else-lands_next-clause-cause : goal.returns-else-lands_next-clause-cause
returns-else-lands_next-clause-cause c = cause_none _

pub returns-else-lands_next-clause-edges : goal.returns-else-lands_next-clause-edges
returns-else-lands_next-clause-edges c = refl

pub returns-else-lands_next-clause-rest : goal.returns-else-lands_next-clause-rest
returns-else-lands_next-clause-rest c = rw c.in-Goes.ensures.failing refl

pub returns-else-lands_next-clause-called : goal.returns-else-lands_next-clause-called
returns-else-lands_next-clause-called c = record { ok = c.in-Goes.ensures.next.called; unplanned = c.in-Goes.ensures.next.planned; err = tt }

pub returns-else-lands_next-clause-wrote : goal.returns-else-lands_next-clause-wrote
returns-else-lands_next-clause-wrote c = ap Some (ok_holds c.add_write.result (sym c.is_ok.ensures.value ∙ c.if-is_ok.true) c.add_write.ensures.ok)

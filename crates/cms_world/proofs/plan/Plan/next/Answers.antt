use Rattle.cms_world.proofs.plan.Plan.next.Goals as goal

pub returns-then-is_err-clause-failing : goal.returns-then-is_err-clause-failing
returns-then-is_err-clause-failing c = c.write_down.ensures.failing

pub returns-in-None-clause-failing : goal.returns-in-None-clause-failing
returns-in-None-clause-failing c = c.write_down.ensures.failing

pub returns-in-Some-clause-failing : goal.returns-in-Some-clause-failing
returns-in-Some-clause-failing c = c.write_down.ensures.failing

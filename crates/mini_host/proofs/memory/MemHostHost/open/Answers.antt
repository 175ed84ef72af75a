use Rattle.std.proofs.Common.{refl}
use Rattle.mini_host.proofs.Calls.{same_count, unplanned}
use Rattle.mini_host.proofs.memory.MemHostHost.open.Goals as goal

pub returns-clause-failed : goal.returns-clause-failed
returns-clause-failed c = tt

pub returns-clause-cause : goal.returns-clause-cause
returns-clause-cause c = record { later = same_count _; failed = tt }

pub returns-clause-called : goal.returns-clause-called
returns-clause-called c = record { calls = c.goes.ensures.calls; unplanned = unplanned _ _ c.goes.ensures.goes c.if-goes.true; failing = c.goes.ensures.failing }

pub returns-2-clause-there : goal.returns-2-clause-there
returns-2-clause-there c = tt

pub returns-2-clause-opened : goal.returns-2-clause-opened
returns-2-clause-opened c = tt

pub returns-2-clause-failed : goal.returns-2-clause-failed
returns-2-clause-failed c = refl

pub returns-2-clause-cause : goal.returns-2-clause-cause
returns-2-clause-cause c = record { later = c.counted.ensures.later; failed = c.counted.ensures.rose }

pub returns-2-clause-called : goal.returns-2-clause-called
returns-2-clause-called c = record { calls = c.goes.ensures.calls; unplanned = tt; failing = c.goes.ensures.failing }

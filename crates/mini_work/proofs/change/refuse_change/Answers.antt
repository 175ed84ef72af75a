use Rattle.mini_work.proofs.Caused.{end_refuse, end_then}
use Rattle.mini_work.proofs.change.refuse_change.Goals as goal

pub returns-clause-cause : goal.returns-clause-cause
returns-clause-cause g c = λ first f e later rose. end_then first _ _ _ later (end_refuse _ _ c.refuse.result (c.refuse.ensures.cause (record { faults = f; edges = e; host = 0 })) c.refuse.ensures.status)

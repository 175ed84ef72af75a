use Rattle.mini_work.proofs.Caused.{cause_done, later_then}
use Rattle.mini_work.proofs.opened_image.refuse_volume.Goals as goal

pub returns-in_ok-refuse-in_default-clause-cause : goal.returns-in_ok-refuse-in_default-clause-cause
returns-in_ok-refuse-in_default-clause-cause g c = λ first f e later rose. cause_done _ _ _ (later_then first _ _ later (c.in_ok-refuse-in_default.ensures.cause (record { faults = f; edges = e; host = 0 })).later)

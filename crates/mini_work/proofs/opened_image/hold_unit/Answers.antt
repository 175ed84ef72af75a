use Rattle.mini_work.proofs.Caused.{cause_done, reads_later}
use Rattle.mini_work.specs.Causes.{counts}
use Rattle.std.proofs.Common.{inl}
use Rattle.mini_work.proofs.Checked.{holds_on, shut_on}
use Rattle.mini_work.proofs.opened_image.hold_unit.Goals as goal

pub returns-in-Ok-clause-holds : goal.returns-in-Ok-clause-holds
returns-in-Ok-clause-holds g c = λ name size a.
    holds_on name size _ _ c.args.unit.now c.in-Ok.held a c.in-Ok.ensures.answers c.in-Ok.ensures.reads.told

pub returns-in-Err-clause-shut : goal.returns-in-Err-clause-shut
returns-in-Err-clause-shut g c =
    shut_on c.refuse_volume.result _ _ c.args.unit.now c.in-Err.why c.refuse_volume.ensures.why c.in-Err.ensures.answers c.in-Err.ensures.reads.told

pub returns-in-Ok-clause-cause : goal.returns-in-Ok-clause-cause
returns-in-Ok-clause-cause g c = cause_done _ _ _ (reads_later _ _ _ _ (g.H.Host.faults c.args.host.now) c.in-Ok.ensures.reads)

pub returns-in-Err-clause-cause : goal.returns-in-Err-clause-cause
returns-in-Err-clause-cause g c = let at = counts g.W.World g.H.Host in c.refuse_volume.ensures.cause (at c.args.world.now c.args.host.now) _ _ (reads_later _ _ _ _ (g.H.Host.faults c.args.host.now) c.in-Err.ensures.reads) (λ is. inl (c.in-Err.ensures.reads.cause is))

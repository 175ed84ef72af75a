use Rattle.std.proofs.Common.{◌∙◌, FitsSigned, ap, rules, w32, w64}
use Rattle.std.proofs.lemmas.Int.{to_z-of_z}
use Rattle.cms_journal.specs.declared.event.Event.TheVariants.{Now}
use Rattle.cms_fields.specs.Moments.{stamp_of}
use Rattle.cms_fields.specs.declared.time.Moment.{Moment}
use Rattle.mini_work.specs.Changes.{IsAsked}
use Rattle.mini_work.specs.declared.fault.Fault.TheVariants.{Clock}
use Rattle.mini_work.proofs.PartsJoined.{asked_on, ended_same, grown_adds}
use Rattle.mini_work.specs.declared.fault.Fault.TheVariants as fault
use Rattle.mini_work.proofs.Caused.{cause_done, edges_failed, edges_later}
use Rattle.mini_work.proofs.clock.ask_clock.Goals as goal

pub returns-in-Ok-clause-goes : goal.returns-in-Ok-clause-goes
returns-in-Ok-clause-goes g c = λ d.
    let fits : FitsSigned w64 c.in-Ok.seconds = search rules in
    let seconds = to_z-of_z w64 c.in-Ok.seconds fits in
    let small : FitsSigned w32 c.args.offset = c.ranges.offset in
    let offset = to_z-of_z w32 c.args.offset small in
    let value = rw (seconds, offset) at c.of_epoch.ensures.value in
    asked_on c.args.offset c.of.result c.in-Ok.seconds _ _ d c.in-Ok.ensures.now
    (c.of.ensures.value ∙ ap (λ (m : Moment). stamp_of m) value)

pub returns-in-Ok-clause-grown : goal.returns-in-Ok-clause-grown
returns-in-Ok-clause-grown g c = grown_adds _ _ (Now c.in-Ok.seconds) c.in-Ok.ensures.now

pub returns-in-Err-clause-goes : goal.returns-in-Err-clause-goes
returns-in-Err-clause-goes g c = λ d. ended_same (IsAsked c.args.offset) _ _ d Clock c.in-Err.ensures.failed

pub returns-in-Ok-clause-cause : goal.returns-in-Ok-clause-cause
returns-in-Ok-clause-cause g c = λ n. cause_done _ _ _ (edges_later _ _ _ _ _ c.in-Ok.ensures.faults c.in-Ok.ensures.cause.later)

pub returns-in-Err-clause-cause : goal.returns-in-Err-clause-cause
returns-in-Err-clause-cause g c =
    λ n. edges_failed _ _ fault.Clock (edges_later _ _ _ _ _ c.in-Err.ensures.faults c.in-Err.ensures.cause.later) c.in-Err.ensures.cause.failed

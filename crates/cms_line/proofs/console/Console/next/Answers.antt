use Rattle.std.proofs.Common.{◌∙◌, ap, arith, refl, false, ◌≤◌, Err, length, sym, subst}
use Rattle.cms_model.specs.Items.{items}
use Rattle.cms_line.proofs.ConsoleReads.{stayed_none, took_line, stayed_same, stayed_filled, stayed_passed, took_end}
use Rattle.cms_line.specs.ConsoleState.{Console}
use Rattle.cms_line.specs.declared.console.LineFault.{LineFault}
use Rattle.cms_line.proofs.ConsoleExits.{ok_at_err, on_err, cause_at_ok, cause_at_memory, cause_at_world, fewer}
use Rattle.cms_line.proofs.console.Console.next.Goals as goal

pub loop-init : goal.loop-init
loop-init g c = record { stayed = stayed_none _ _; later = omega arith; faults = refl }

pub returns-in-Ok-Taken-clause-ok : goal.returns-in-Ok-Taken-clause-ok
returns-in-Ok-Taken-clause-ok g c = took_line _ _ _ _ _ c.in-Ok-Taken.line c.loop.invariant.stayed (rw c.in-Ok-Taken.field-0-is at c.in-Ok-Taken.ensures.ok)

pub loop-preserved : goal.loop-preserved
loop-preserved g c =
    let more = rw c.in-Ok-More.field-0-is at c.in-Ok-More.ensures.ok in
    let here = stayed_same _ _ _ _ _ _ c.loop.invariant.stayed refl more.0 in
    record {
      stayed = stayed_filled _ _ _ _ _ _ here (ap (λ s. s.ended) more.0 ∙ more.1) (ap (λ s. items s.unread false) more.0 ∙ more.2) c.in_ok-fill.ensures.ok;
      later = omega (arith, c.loop.invariant.later, c.fill.ensures.cause.later);
      faults = c.fill.ensures.faults ∙ c.loop.invariant.faults;
    }

pub returns-in-Ok-Taken-clause-cause : goal.returns-in-Ok-Taken-clause-cause
returns-in-Ok-Taken-clause-cause g c = cause_at_ok _ _ c.in-Ok-Taken.line c.loop.invariant.later

pub returns-in-Ok-Taken-clause-faults : goal.returns-in-Ok-Taken-clause-faults
returns-in-Ok-Taken-clause-faults g c = c.loop.invariant.faults

pub loop-smaller-in-Ok-Passed : goal.loop-smaller-in-Ok-Passed
loop-smaller-in-Ok-Passed g c = fewer 18446744073709551615 c.loop.counter c.loop-test.true

pub loop-preserved-in-Ok-Passed : goal.loop-preserved-in-Ok-Passed
loop-preserved-in-Ok-Passed g c = record {
  stayed = stayed_passed _ _ _ _ _ c.loop.invariant.stayed (rw c.in-Ok-Passed.field-0-is at c.in-Ok-Passed.ensures.ok);
  later = c.loop.invariant.later;
  faults = c.loop.invariant.faults;
}

pub returns-in-Ok-Ended-clause-ok : goal.returns-in-Ok-Ended-clause-ok
returns-in-Ok-Ended-clause-ok g c =
    let ended = rw c.in-Ok-Ended.field-0-is at c.in-Ok-Ended.ensures.ok in
    took_end _ _ _ _ _ c.loop.invariant.stayed ended.0 ended.1 ended.2

pub returns-in-Ok-Ended-clause-cause : goal.returns-in-Ok-Ended-clause-cause
returns-in-Ok-Ended-clause-cause g c = cause_at_ok _ _ _ c.loop.invariant.later

pub returns-in-Ok-Ended-clause-faults : goal.returns-in-Ok-Ended-clause-faults
returns-in-Ok-Ended-clause-faults g c = c.loop.invariant.faults

pub returns-in-Err-clause-err : goal.returns-in-Err-clause-err
returns-in-Err-clause-err g c = stayed_same _ _ _ _ _ _ c.loop.invariant.stayed refl c.in-Err.ensures.err

pub returns-in-Err-clause-cause : goal.returns-in-Err-clause-cause
returns-in-Err-clause-cause g c = cause_at_memory _ _ c.loop.invariant.later

pub returns-in-Err-clause-faults : goal.returns-in-Err-clause-faults
returns-in-Err-clause-faults g c = c.loop.invariant.faults

pub fill-requires-clause-yet : goal.fill-requires-clause-yet
fill-requires-clause-yet g c =
    let more = rw c.in-Ok-More.field-0-is at c.in-Ok-More.ensures.ok in
    ap (λ s. s.ended) more.0 ∙ more.1

pub fill-requires-clause-room : goal.fill-requires-clause-room
fill-requires-clause-room g c =
    let more = rw c.in-Ok-More.field-0-is at c.in-Ok-More.ensures.ok in
    subst (λ (s : Console). length s.unread.bytes ≤ 256) (sym more.0) more.3

pub returns-in_err-fill-clause-ok : goal.returns-in_err-fill-clause-ok
returns-in_err-fill-clause-ok g c = ok_at_err _ c.from_residual.result _ c.from_residual.ensures.1

pub returns-in_err-fill-clause-err : goal.returns-in_err-fill-clause-err
returns-in_err-fill-clause-err g c =
    let more = rw c.in-Ok-More.field-0-is at c.in-Ok-More.ensures.ok in
    on_err c.from_residual.result _ (stayed_same _ _ _ _ _ _ c.loop.invariant.stayed c.in_err-fill.ensures.told (c.in_err-fill.ensures.err ∙ more.0))

pub returns-in_err-fill-clause-cause : goal.returns-in_err-fill-clause-cause
returns-in_err-fill-clause-cause g c =
    cause_at_world _ _ _ c.from_residual.result c.loop.invariant.later c.fill.ensures.cause.later (c.in_err-fill.ensures.cause.rose (ap (λ (e : LineFault). Err e) c.in_err-fill.ensures.fault))

pub returns-in_err-fill-clause-faults : goal.returns-in_err-fill-clause-faults
returns-in_err-fill-clause-faults g c = c.fill.ensures.faults ∙ c.loop.invariant.faults

pub loop-smaller : goal.loop-smaller
loop-smaller g c = fewer 18446744073709551615 c.loop.counter c.loop-test.true

pub returns-clause-err : goal.returns-clause-err
returns-clause-err g c = c.loop.invariant.stayed

pub returns-clause-cause : goal.returns-clause-cause
returns-clause-cause g c = cause_at_memory _ _ c.loop.invariant.later

pub returns-clause-faults : goal.returns-clause-faults
returns-clause-faults g c = c.loop.invariant.faults

use Rattle.std.proofs.Common.{refl, ◌≡◌, ◌∙◌, ◌≤◌, ◌<◌, ◌+◌, ℕ, ap, sym, subst, length, inr}
use Rattle.std.specs.Prelude.{Ok}
use Rattle.std.specs.FinMap.{len}
use Rattle.exec2_run.specs.Calls.{entered}
use Rattle.exec2_run.proofs.Passed.{does_no_memory, does_fails_so}
use Rattle.exec2_run.specs.declared.want.Want.TheVariants.{Next}
use Rattle.exec2_run.specs.State.{Exec}
use Rattle.exec2_run.specs.Variables.{room_for}
use Rattle.exec2_run.proofs.Statements.{enters_no_room, enters_so, enters_too_deep}
use Rattle.exec2_run.proofs.exec.ExecState.enter.Goals as goal

pub returns-in_err-arguments : goal.returns-in_err-arguments
returns-in_err-arguments c =
    let a = c.args in
    does_no_memory (entered a.self.now a.place a.values.now) a.self.now a.self.now c.from_residual-in_err-arguments.result refl c.from_residual-in_err-arguments.ensures.1

pub returns-in_err-put_aside : goal.returns-in_err-put_aside
returns-in_err-put_aside c =
    let a = c.args in
    does_no_memory (entered a.self.now a.place a.values.now) a.self.now c.put_aside.new.self c.from_residual-in_err-put_aside.result c.in_err-put_aside.ensures.err
    c.from_residual-in_err-put_aside.ensures.1

pub returns-then-len-ge-MOST : goal.returns-then-len-ge-MOST
returns-then-len-ge-MOST c =
    let a = c.args in (
      refl,
      inr (enters_too_deep a.self.now a.place a.values.now
          (subst (λ (n : ℕ). 100 ≤ n) (c.len.ensures ∙ ap (λ (p : Exec). length p.calls) c.self.view_is) c.if-len-ge-MOST.true)),
    )

pub returns-in_err-room_for : goal.returns-in_err-room_for
returns-in_err-room_for c =
    let a = c.args in
    let why = c.in_err-room_for.field-0.0 in
    does_fails_so (entered a.self.now a.place a.values.now) a.self.now a.self.now c.from_residual.result why refl c.from_residual.ensures.1
    (enters_no_room a.self.now a.place a.values.now why
    (subst (λ (n : ℕ). n < 100) (c.len.ensures ∙ ap (λ (p : Exec). length p.calls) c.self.view_is) c.if-len-ge-MOST.false)
    (ap (λ (p : Exec). room_for (len p.variables.others + length a.values.now)) (sym c.self.view_is) ∙ sym c.in_err-room_for.ensures))

pub returns : goal.returns
returns c =
    let a = c.args in
    subst (λ (p : Exec). entered a.self.now a.place a.values.now ≡ Ok (record p { next = a.place }, Next)) (sym c.self-2.view_is)
    (enters_so a.self.now a.place a.values.now c.put_aside.new.self c.in_ok-room_for.field-0 c.in_ok-arguments.arguments
    (subst (λ (n : ℕ). n < 100) (c.len.ensures ∙ ap (λ (p : Exec). length p.calls) c.self.view_is) c.if-len-ge-MOST.false)
    (ap (λ (p : Exec). room_for (len p.variables.others + length a.values.now)) (sym c.self.view_is) ∙ sym c.in_ok-room_for.ensures)
    c.in_ok-arguments.ensures c.in_ok-put_aside.ensures.ok)

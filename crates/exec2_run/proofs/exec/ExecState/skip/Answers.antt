use Rattle.std.proofs.Common.{◌≡◌, ◌∙◌, sym, refl, subst}
use Rattle.std.specs.Prelude.{Ok}
use Rattle.exec2_run.specs.Given.{bound}
use Rattle.exec2_run.specs.Jumps.{skipped}
use Rattle.exec2_run.specs.State.{Exec}
use Rattle.exec2_run.specs.declared.want.Want.TheVariants.{Next}
use Rattle.exec2_run.proofs.Passed.{does_fails_so, does_no_memory}
use Rattle.exec2_run.proofs.WordsTaken.{skipped_as}
use Rattle.exec2_run.proofs.exec.ExecState.skip.Goals as goal

pub returns-in_err-operands : goal.returns-in_err-operands
returns-in_err-operands c =
    let s = c.args.self.now in
    does_no_memory (skipped s c.args.words.now) s s c.from_residual.result refl c.from_residual.ensures.1

pub returns-in_err-self-inside : goal.returns-in_err-self-inside
returns-in_err-self-inside c =
    let s = c.args.self.now in
    let words = c.args.words.now in
    let why = c.in_err-self-inside.field-0.0 in
    does_fails_so (skipped s words) s s c.from_residual-in_err-self-inside.result why refl c.from_residual-in_err-self-inside.ensures.1
    (skipped_as s (bound c.seen.result) words c.in_ok-operands.operands c.as_slice.result.now c.seen.ensures c.in_ok-operands.ensures c.as_slice.ensures ∙ c.in_err-self-inside.ensures)

pub returns : goal.returns
returns c =
    let s = c.args.self.now in
    let words = c.args.words.now in
    subst (λ (p : Exec). skipped s words ≡ Ok (record p { next = c.in_ok-self-inside.field-0 }, Next)) (sym c.self.view_is)
    (skipped_as s (bound c.seen.result) words c.in_ok-operands.operands c.as_slice.result.now c.seen.ensures c.in_ok-operands.ensures c.as_slice.ensures ∙ c.in_ok-self-inside.ensures)

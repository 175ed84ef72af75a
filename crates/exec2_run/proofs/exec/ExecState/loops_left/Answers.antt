use Rattle.std.proofs.Common.{◌≡◌, ◌∙◌, length, sym, ap, arith, true, false}
use Rattle.std.specs.Prelude.{Ok, slice_get}
use Rattle.exec2_run.specs.Loops.{begins, has}
use Rattle.exec2_run.specs.State.{Exec}
use Rattle.std.proofs.lemmas.List.{drop_all}
use Rattle.exec2_run.proofs.Places.{past_end}
use Rattle.exec2_run.proofs.Settled.{all_over, left_behind, more_passes, or_else, pass_over, stays_open, test_fails}
use Rattle.exec2_run.proofs.exec.ExecState.loops_left.Goals.{then-self-innermost+in-Ok-false, else-self-innermost+else-has, else-loop-over-test, then-loop-over-test+in_default}
use Rattle.exec2_run.proofs.exec.ExecState.loops_left.Goals as goal

pub returns-in-Ok-true : goal.returns-in-Ok-true
returns-in-Ok-true c =
    let s = c.args.self.now in
    let here = c.in-Some.ensures ∙ ap (λ (p : Exec). slice_get p.loops c.loop-over.over) c.self.view_is in
    let next = ap (λ (p : Exec). p.next) c.self.view_is in
    let b : begins c.args.moment.now s c.in-Some.innermost.now ≡ Ok true = c.in-Ok-true.ensures ∙ ap Ok c.in-Ok-true.field-0-test in
    c.loop-over.invariant ∙ more_passes c.args.moment.now s s.loops c.loop-over.over c.in-Some.innermost.now here (sym next ∙ c.if-self-innermost.true) b

pub returns-in-Err : goal.returns-in-Err
returns-in-Err c =
    let s = c.args.self.now in
    let here = c.in-Some.ensures ∙ ap (λ (p : Exec). slice_get p.loops c.loop-over.over) c.self.view_is in
    let next = ap (λ (p : Exec). p.next) c.self.view_is in
    or_else c.in-Err.ensures (λ b. c.loop-over.invariant
    ∙ test_fails c.args.moment.now s s.loops c.loop-over.over c.in-Some.innermost.now here c.in-Err.fault (sym next ∙ c.if-self-innermost.true) b)

pub returns-then-has : goal.returns-then-has
returns-then-has c =
    let s = c.args.self.now in
    let here = c.in-Some.ensures ∙ ap (λ (p : Exec). slice_get p.loops c.loop-over.over) c.self.view_is in
    let next = ap (λ (p : Exec). p.next) c.self.view_is in
    c.loop-over.invariant ∙ stays_open c.args.moment.now s s.loops c.loop-over.over c.in-Some.innermost.now here (λ at. c.if-self-innermost.false (next ∙ at)) (ap (has c.in-Some.innermost.now) (sym next) ∙ sym c.if-has.ensures)

pub loop-over-preserved : goal.loop-over-preserved
loop-over-preserved c =
    let s = c.args.self.now in
    let here = c.in-Some.ensures ∙ ap (λ (p : Exec). slice_get p.loops c.loop-over.over) c.self.view_is in
    let next = ap (λ (p : Exec). p.next) c.self.view_is in
    elim c.if-self-innermost.branch [
      | then-self-innermost+in-Ok-false w ↦
          (let b : begins c.args.moment.now s c.in-Some.innermost.now ≡ Ok false = w.in-Ok-false.ensures ∙ ap Ok w.in-Ok-false.field-0-test in
          c.loop-over.invariant ∙ pass_over c.args.moment.now s s.loops c.loop-over.over c.in-Some.innermost.now here (sym next ∙ w.if-self-innermost.true) b)
      | else-self-innermost+else-has w ↦
          c.loop-over.invariant ∙ left_behind c.args.moment.now s s.loops c.loop-over.over c.in-Some.innermost.now here (λ at. w.if-self-innermost.false (next ∙ at))
          (ap (has c.in-Some.innermost.now) (sym next) ∙ sym w.if-has.ensures)
    ]

pub returns : goal.returns
returns c =
    let s = c.args.self.now in
    let same = ap (λ (p : Exec). length p.loops) c.self.view_is in
    elim c.loop-over-test.branch [
      | else-loop-over-test w ↦ all_over c.args.moment.now s s.loops c.loop-over.over c.len.result c.loop-over.invariant
          (drop_all c.loop-over.over s.loops (omega (arith, same))) (drop_all c.len.result s.loops (omega (arith, same)))
      | then-loop-over-test+in_default w ↦ all_over c.args.moment.now s s.loops c.loop-over.over c.len.result c.loop-over.invariant
          (past_end s.loops c.loop-over.over (w.in_default.ensures ∙ ap (λ (p : Exec). slice_get p.loops c.loop-over.over) c.self.view_is))
          (drop_all c.len.result s.loops (omega (arith, same)))
    ]

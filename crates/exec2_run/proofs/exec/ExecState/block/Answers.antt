use Rattle.std.proofs.Common.{◌∙◌, ap, sym, rules, inr, length, ◌≤◌, subst, ℕ}
use Rattle.std.specs.Prelude.{slice_get}
use Rattle.exec2_run.specs.State.{Exec}
use Rattle.exec2_run.proofs.Blocks.{block_ends, block_none, block_begins, block_kept, block_over, count_fits, fewer_left, next_fits, told_end}
use Rattle.exec2_run.specs.Outputs.{block}
use Rattle.exec2_run.proofs.Passed.{no_memory}
use Rattle.exec2_run.proofs.exec.ExecState.block.Goals as goal

pub returns-in_default : goal.returns-in_default
returns-in_default c = inr (sym c.loop-place.invariant ∙ block_none c.loop-place.lines c.args.self.now.lines c.loop-place.place
    (c.in_default.ensures ∙ ap (λ (p : Exec). slice_get p.lines c.loop-place.place) c.self.view_is))

pub returns-then-is_end : goal.returns-then-is_end
returns-then-is_end c =
    sym c.loop-place.invariant ∙ block_ends c.loop-place.lines c.args.self.now.lines c.loop-place.place c.in-Some.line.now
    (c.in-Some.ensures ∙ ap (λ (p : Exec). slice_get p.lines c.loop-place.place) c.self.view_is) (search rules)

pub overflow_cast-end : goal.overflow_cast-end
overflow_cast-end c = count_fits c.len-end.result (length c.self.inside.lines) c.len-end.ensures.count c.len-end.ensures.most

pub overflow_add-result : goal.overflow_add-result
overflow_add-result c = next_fits c.loop-place.place c.len-end.result (length c.self.inside.lines) c.loop-place-test.true c.len-end.ensures.count c.len-end.ensures.most

pub loop-place-init : goal.loop-place-init
loop-place-init c = block_begins c.args.self.now c.new-lines.result c.self.inside.next c.new-lines.ensures (ap (λ (p : Exec). p.next) c.self.view_is)

pub returns-in_err-of : goal.returns-in_err-of
returns-in_err-of c = no_memory (block c.args.self.now) c.from_residual.result c.from_residual.ensures.1

pub returns-in_err-push : goal.returns-in_err-push
returns-in_err-push c = no_memory (block c.args.self.now) c.from_residual-in_err-push.result c.from_residual-in_err-push.ensures.1

pub loop-place-smaller : goal.loop-place-smaller
loop-place-smaller c = fewer_left c.len-end.result c.loop-place.place c.loop-place-test.true

pub loop-place-preserved : goal.loop-place-preserved
loop-place-preserved c =
    let line = c.in-Some.line.now in
    block_kept c.loop-place.lines c.args.self.now.lines c.push.new.self c.loop-place.place line c.in_ok-of.field-0 (block c.args.self.now)
    (c.in-Some.ensures ∙ ap (λ (p : Exec). slice_get p.lines c.loop-place.place) c.self.view_is)
    (told_end line c.bytes.result.now c.is_end.result _ c.bytes.ensures.bytes c.is_end.ensures c.if-is_end.false) (c.in_ok-of.ensures ∙ c.bytes-in-loop-place.ensures.bytes) c.in_ok-push.ensures.ok
    c.loop-place.invariant

pub returns : goal.returns
returns c =
    inr (sym c.loop-place.invariant ∙ block_over c.loop-place.lines c.args.self.now.lines c.loop-place.place
    (subst (λ (n : ℕ). n ≤ c.loop-place.place) (c.len-end.ensures.count ∙ ap (λ (p : Exec). length p.lines) c.self.view_is) c.loop-place-test.false))

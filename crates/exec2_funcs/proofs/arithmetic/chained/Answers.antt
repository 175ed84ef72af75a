use Rattle.std.proofs.Common.{◌∙◌, ◌+◌, sym, ap, drop, rules, arith}
use Rattle.std.specs.Prelude.{ℤ, FitsSigned}
use Rattle.std.specs.Int.{w64}
use mir.Val.{to_z}
use Rattle.std.proofs.lemmas.Int.{to_z-of_z}
use Rattle.std.proofs.lemmas.Result.{err_from_is_err_and}
use Rattle.exec2_funcs.specs.Calls.{chained, step_of}
use Rattle.exec2_funcs.proofs.Chains.{all_taken, no_number, no_step, one_step}
use Rattle.exec2_funcs.proofs.arithmetic.chained.Goals as goal

pub returns-in_err-number_in : goal.returns-in_err-number_in
returns-in_err-number_in c =
    let p = err_from_is_err_and c.from_residual.result c.from_residual.ensures.1 in
    let first = to_z-of_z w64 c.args.first c.ranges.first in
    let step = step_of c.args.operation in
    rw (p.1, p.2) (
    sym (no_number step _ c.args.words.now c.loop-word.word-index c.word-item.result (search rules) c.word-item.is c.in_err-number_in.field-0.0 (sym c.in_err-number_in.ensures))
    ∙ c.loop-word.invariant ∙ ap (λ (z : ℤ). chained step z c.args.words.now) first)

pub returns-in_err-value : goal.returns-in_err-value
returns-in_err-value c =
    let p = err_from_is_err_and c.from_residual-in_err-value.result c.from_residual-in_err-value.ensures.1 in
    let first = to_z-of_z w64 c.args.first c.ranges.first in
    let step = step_of c.args.operation in
    let n = c.in_ok-number_in.field-0 in
    let fits : FitsSigned w64 n = search rules in
    rw (p.1, p.2) (
    sym (no_step step _ c.args.words.now c.loop-word.word-index c.word-item.result (search rules) c.word-item.is n c.in_err-value.field-0.0 (sym c.in_ok-number_in.ensures)
    (ap (λ (z : ℤ). step (to_z w64 c.loop-word.value-bits) z) (sym (to_z-of_z w64 n fits)) ∙ sym c.in_err-value.ensures))
    ∙ c.loop-word.invariant ∙ ap (λ (z : ℤ). chained step z c.args.words.now) first)

pub loop-word-preserved : goal.loop-word-preserved
loop-word-preserved c =
    let step = step_of c.args.operation in
    let n = c.in_ok-number_in.field-0 in
    let next = c.in_ok-value.value in
    let fits : FitsSigned w64 n = search rules in
    let next_fits : FitsSigned w64 next = search rules in
    ap (λ (z : ℤ). chained step z (drop (c.loop-word.word-index + 1) c.args.words.now)) (to_z-of_z w64 next next_fits)
    ∙ sym (one_step step _ c.args.words.now c.loop-word.word-index c.word-item.result (search rules) c.word-item.is n next (sym c.in_ok-number_in.ensures)
    (ap (λ (z : ℤ). step (to_z w64 c.loop-word.value-bits) z) (sym (to_z-of_z w64 n fits)) ∙ sym c.in_ok-value.ensures))
    ∙ c.loop-word.invariant

pub returns : goal.returns
returns c =
    let first = to_z-of_z w64 c.args.first c.ranges.first in
    let step = step_of c.args.operation in
    sym (all_taken step _ c.args.words.now c.loop-word.word-index (omega arith)) ∙ c.loop-word.invariant ∙ ap (λ (z : ℤ). chained step z c.args.words.now) first

use Rattle.std.proofs.Common.{◌∙◌, ◌-◌, ap, drop, length, take, rules}
use Rattle.std.specs.Prelude.{ℤ, FitsSigned}
use Rattle.std.specs.Int.{w64}
use Rattle.std.proofs.lemmas.Int.{to_z-of_z}
use Rattle.cms_text.specs.Numbers.{written}
use Rattle.exec2_funcs.specs.Calls.{arithmetic_call, chained, step_of}
use Rattle.exec2_funcs.proofs.Chains.{all_good, bad_first, bad_other, of_first, some_others}
use Rattle.exec2_funcs.proofs.Passed.{fails_so, no_memory}
use Rattle.exec2_funcs.proofs.arithmetic.arithmetic.Goals as goal

pub returns-in_err-number_in-in-len1-up : goal.returns-in_err-number_in-in-len1-up
returns-in_err-number_in-in-len1-up c =
    let op = c.args.operation in
    let words = c.args.words.now in
    let others = take (length words - 1) (drop 1 words) in
    let why = c.in_err-number_in-in-len1-up.field-0.0 in
    fails_so (arithmetic_call op words) c.from_residual.result why c.from_residual.ensures.1
    (bad_first op words others c.first-item.result (of_first op words c.first-item.result c.in-len1-up.len_at_least c.first-item.is
    (some_others others c.is_empty.result c.is_empty.ensures c.if-not-is_empty.true)) why c.in_err-number_in-in-len1-up.ensures)

pub returns-in_err-value-in-len1-up : goal.returns-in_err-value-in-len1-up
returns-in_err-value-in-len1-up c =
    let op = c.args.operation in
    let words = c.args.words.now in
    let others = take (length words - 1) (drop 1 words) in
    let why = c.in_err-value-in-len1-up.field-0.0 in
    let n = c.in_ok-number_in-in-len1-up.field-0 in
    let fits : FitsSigned w64 n = search rules in
    fails_so (arithmetic_call op words) c.from_residual-in_err-value-in-len1-up.result why c.from_residual-in_err-value-in-len1-up.ensures.1
    (bad_other op words others c.first-item.result (of_first op words c.first-item.result c.in-len1-up.len_at_least c.first-item.is
    (some_others others c.is_empty.result c.is_empty.ensures c.if-not-is_empty.true)) n why c.in_ok-number_in-in-len1-up.ensures
    (c.in_err-value-in-len1-up.ensures ∙ ap (λ (z : ℤ). chained (step_of op) z others) (to_z-of_z w64 n fits)))

pub returns-in_err-written-in-len1-up : goal.returns-in_err-written-in-len1-up
returns-in_err-written-in-len1-up c =
    no_memory (arithmetic_call c.args.operation c.args.words.now) c.from_residual-in_err-written-in-len1-up.result c.from_residual-in_err-written-in-len1-up.ensures.1

pub returns-in_ok-written-in-len1-up : goal.returns-in_ok-written-in-len1-up
returns-in_ok-written-in-len1-up c =
    let op = c.args.operation in
    let words = c.args.words.now in
    let others = take (length words - 1) (drop 1 words) in
    let n = c.in_ok-number_in-in-len1-up.field-0 in
    let value = c.in_ok-value-in-len1-up.value in
    let fits : FitsSigned w64 n = search rules in
    let value_fits : FitsSigned w64 value = search rules in
    all_good op words others c.first-item.result (of_first op words c.first-item.result c.in-len1-up.len_at_least c.first-item.is
    (some_others others c.is_empty.result c.is_empty.ensures c.if-not-is_empty.true)) n value c.in_ok-written-in-len1-up.field-0 c.in_ok-number_in-in-len1-up.ensures
    (c.in_ok-value-in-len1-up.ensures ∙ ap (λ (z : ℤ). chained (step_of op) z others) (to_z-of_z w64 n fits))
    (c.in_ok-written-in-len1-up.ensures ∙ ap written (to_z-of_z w64 value value_fits))

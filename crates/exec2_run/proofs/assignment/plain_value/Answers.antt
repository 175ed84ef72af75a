use Rattle.std.proofs.Common.{◌≡◌, ◌∙◌, ◌-◌, true, length, take, drop}
use Rattle.std.specs.Prelude.{Ok}
use Rattle.exec2_run.specs.Assignments.{plain_value, sum_value}
use Rattle.exec2_run.proofs.Passed.{answers_as, fails_so}
use Rattle.exec2_run.proofs.PlainValues.{none_there, plain_cut, plain_none, plain_one, plain_sum, some_there}
use Rattle.exec2_run.proofs.assignment.plain_value.Goals as goal
use Rattle.exec2_run.proofs.assignment.plain_value.Goals.{else-is_empty-via-then-is_empty+else-not-operands, else-is_empty-via-else-is_empty}

pub returns-in_err-whole : goal.returns-in_err-whole
returns-in_err-whole c =
    let o = c.args.operands.now in
    let why = c.in_err-whole.field-0.0 in
    fails_so (plain_value o) c.from_residual.result why c.from_residual.ensures.1
    (plain_cut o c.as_slice.result.now c.as_slice.ensures why c.in_default.len_below c.in_err-whole.ensures)

pub returns-in_default : goal.returns-in_default
returns-in_default c =
    plain_none c.args.operands.now c.as_slice.result.now c.as_slice.ensures c.in_ok-whole.field-0 c.take.result c.in_default.len_below c.in_ok-whole.ensures (c.take.ensures ∙ c.new.ensures.items)

pub returns-then-not-operands : goal.returns-then-not-operands
returns-then-not-operands c =
    let o = c.args.operands.now in
    let words = c.as_slice.result.now in
    let alone = none_there (take (length words - 1) (drop 1 words)) c.is_empty.result c.is_empty.ensures c.if-is_empty.true in
    answers_as (plain_value o) (Ok c.bytes.result.now) c.text_value.result
    (plain_one o words c.as_slice.ensures c.first-item.result c.bytes.result.now c.in-len1-up.len_at_least c.first-item.is alone c.if-not-operands.true c.bytes.ensures.bytes) c.text_value.ensures

pub returns : goal.returns
returns c =
    let o = c.args.operands.now in
    let words = c.as_slice.result.now in
    let rest = take (length words - 1) (drop 1 words) in
    let cut : length rest ≡ 0 → o.is_cut ≡ true = elim c.else-is_empty.branch [
      | else-is_empty-via-then-is_empty+else-not-operands w ↦ λ none. w.if-not-operands.false
      | else-is_empty-via-else-is_empty w ↦ λ none. absurd (some_there rest c.is_empty.result c.is_empty.ensures w.if-is_empty.false none)
    ] in
    answers_as (plain_value o) (sum_value c.bytes-2.result.now rest o.is_cut) c.sum_value.result
    (plain_sum o words c.as_slice.ensures c.first-item.result c.bytes-2.result.now c.in-len1-up.len_at_least c.first-item.is c.bytes-2.ensures.bytes cut) c.sum_value.ensures

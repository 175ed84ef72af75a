use Rattle.std.proofs.Common.{◌≡◌, ◌-◌, Err, codes, drop, inr, length, subst, sym, take, true, false}
use Rattle.std.specs.Prelude.{Result}
use Rattle.exec2_run.specs.Faults.{Answers}
use Rattle.exec2_run.specs.Given.{bound}
use Rattle.exec2_run.specs.Loops.{passes, test_in}
use Rattle.exec2_run.specs.declared.fault.Fault.{Fault}
use Rattle.exec2_run.specs.declared.loops.Passes.{Passes}
use Rattle.exec2_run.proofs.KeywordsSaid.{counts_said, no_passes, said, until_fails, until_said, while_fails, while_said}
use Rattle.exec2_run.proofs.Passed.{part_fails}
use Rattle.exec2_run.proofs.loop_passes.passes.Goals as goal

pub returns-in_default : goal.returns-in_default
returns-in_default c = inr (no_passes c.args.words.now c.in_default.len_below (bound c.args.seen.now))

pub returns-in_err-test : goal.returns-in_err-test
returns-in_err-test c =
    let b = bound c.args.seen.now in
    let words = c.args.words.now in
    let why = c.in_err-test.field-0.0 in
    part_fails (passes b words) c.from_residual.result why (test_in b (take (length words - 1) (drop 1 words)) ≡ Err why) c.from_residual.ensures.1 c.in_err-test.ensures
    (while_fails words c.word-item.result c.in-len1-up.len_at_least c.word-item.is b why
    (said (codes "WHILE") c.word-item.result c.bytes.result.now c.is_keyword.result true c.is_keyword.ensures c.bytes.ensures.bytes c.if-is_keyword.true))

pub returns-then-is_keyword : goal.returns-then-is_keyword
returns-then-is_keyword c =
    while_said c.args.words.now c.word-item.result c.in-len1-up.len_at_least c.word-item.is (bound c.args.seen.now) c.in_ok-test.field-0
    (said (codes "WHILE") c.word-item.result c.bytes.result.now c.is_keyword.result true c.is_keyword.ensures c.bytes.ensures.bytes c.if-is_keyword.true) c.in_ok-test.ensures

pub returns-in_err-test-2 : goal.returns-in_err-test-2
returns-in_err-test-2 c =
    let b = bound c.args.seen.now in
    let words = c.args.words.now in
    let why = c.in_err-test-2.field-0.0 in
    part_fails (passes b words) c.from_residual-in_err-test-2.result why (test_in b (take (length words - 1) (drop 1 words)) ≡ Err why) c.from_residual-in_err-test-2.ensures.1 c.in_err-test-2.ensures
    (until_fails words c.word-item.result c.in-len1-up.len_at_least c.word-item.is b why
    (said (codes "WHILE") c.word-item.result c.bytes.result.now c.is_keyword.result false c.is_keyword.ensures c.bytes.ensures.bytes c.if-is_keyword.false)
    (said (codes "UNTIL") c.word-item.result c.bytes-2.result.now c.is_keyword-2.result true c.is_keyword-2.ensures c.bytes-2.ensures.bytes c.if-is_keyword-2.true))

pub returns-then-is_keyword-2 : goal.returns-then-is_keyword-2
returns-then-is_keyword-2 c =
    until_said c.args.words.now c.word-item.result c.in-len1-up.len_at_least c.word-item.is (bound c.args.seen.now) c.in_ok-test-2.field-0
    (said (codes "WHILE") c.word-item.result c.bytes.result.now c.is_keyword.result false c.is_keyword.ensures c.bytes.ensures.bytes c.if-is_keyword.false)
    (said (codes "UNTIL") c.word-item.result c.bytes-2.result.now c.is_keyword-2.result true c.is_keyword-2.ensures c.bytes-2.ensures.bytes c.if-is_keyword-2.true) c.in_ok-test-2.ensures

pub returns : goal.returns
returns c =
    subst (λ (defined : Result Passes Fault). Answers defined c.counted.result)
    (sym (counts_said c.args.words.now c.word-item.result c.in-len1-up.len_at_least c.word-item.is (bound c.args.seen.now)
    (said (codes "WHILE") c.word-item.result c.bytes.result.now c.is_keyword.result false c.is_keyword.ensures c.bytes.ensures.bytes c.if-is_keyword.false)
    (said (codes "UNTIL") c.word-item.result c.bytes-2.result.now c.is_keyword-2.result false c.is_keyword-2.ensures c.bytes-2.ensures.bytes c.if-is_keyword-2.false))) c.counted.ensures

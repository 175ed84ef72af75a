use Rattle.std.proofs.Common.{◌≡◌, ◌∙◌, ◌-◌, Err, ap, drop, inr, length, ok_or, take}
use Rattle.exec2_run.specs.Given.{bound}
use Rattle.exec2_run.specs.Loops.{test_in}
use Rattle.exec2_run.specs.Values.{ended, operands}
use Rattle.exec2_run.specs.declared.fault.Fault.TheVariants.{BadStatement}
use Rattle.exec2_run.proofs.Passed.{no_memory, part_fails}
use Rattle.exec2_run.proofs.WordsTaken.{compares_more, compares_nothing, compares_so, no_test}
use Rattle.exec2_run.proofs.loop_passes.test.Goals as goal

pub returns-in_default : goal.returns-in_default
returns-in_default c = inr (no_test (bound c.args.seen.now) c.args.words.now c.in_default.len_below)

pub returns-in_default-read : goal.returns-in_default-read
returns-in_default-read c =
    inr (compares_nothing (bound c.args.seen.now) c.args.words.now c.left-item.result c.sign-item.result c.right-item.result c.bytes.result.now c.in-len3-up.len_at_least c.left-item.is
    c.sign-item.is c.right-item.is c.bytes.ensures.bytes BadStatement (ap (λ o. ok_or o BadStatement) c.in_default-read.ensures))

pub returns-in_err-of : goal.returns-in_err-of
returns-in_err-of c = no_memory (test_in (bound c.args.seen.now) c.args.words.now) c.from_residual-in_err-of.result c.from_residual-in_err-of.ensures.1

pub returns-in_err-of-2 : goal.returns-in_err-of-2
returns-in_err-of-2 c = no_memory (test_in (bound c.args.seen.now) c.args.words.now) c.from_residual-in_err-of-2.result c.from_residual-in_err-of-2.ensures.1

pub returns-in_err-no_words : goal.returns-in_err-no_words
returns-in_err-no_words c =
    let b = bound c.args.seen.now in
    let words = c.args.words.now in
    let rest = operands b (take (length words - 3) (drop 3 words)) in
    let why = c.in_err-no_words.field-0.0 in
    part_fails (test_in b words) c.from_residual.result why (ended rest.words rest.is_cut ≡ Err why) c.from_residual.ensures.1 c.in_err-no_words.ensures
    (compares_more b words c.left-item.result c.sign-item.result c.right-item.result c.bytes.result.now c.in-len3-up.len_at_least c.left-item.is c.sign-item.is c.right-item.is c.bytes.ensures.bytes
    c.in-Some.comparison why (ap (λ o. ok_or o BadStatement) c.in-Some.ensures))

pub returns : goal.returns
returns c =
    compares_so (bound c.args.seen.now) c.args.words.now c.left-item.result c.sign-item.result c.right-item.result c.bytes.result.now c.in-len3-up.len_at_least c.left-item.is c.sign-item.is
    c.right-item.is c.bytes.ensures.bytes c.in-Some.comparison c.in_ok-no_words.field-0 c.in_ok-of.field-0 c.in_ok-of-2.field-0
    (ap (λ o. ok_or o BadStatement) c.in-Some.ensures) c.in_ok-no_words.ensures (c.in_ok-of.ensures ∙ c.bytes-2.ensures.bytes)
    (c.in_ok-of-2.ensures ∙ c.bytes-3.ensures.bytes)

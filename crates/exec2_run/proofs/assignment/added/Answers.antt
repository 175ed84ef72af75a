use Rattle.std.proofs.Common.{◌∙◌, refl, sym}
use Rattle.exec2_run.specs.Assignments.{added}
use Rattle.exec2_run.proofs.Passed.{equals_so}
use Rattle.exec2_run.proofs.PlainValues.{all_added, next_added, next_fails}
use Rattle.exec2_run.proofs.assignment.added.Goals as goal

pub loop-word-init : goal.loop-word-init
loop-word-init c = refl

pub returns-in_err-total : goal.returns-in_err-total
returns-in_err-total c =
    let l = c.loop-word in
    let why = c.in_err-total.field-0.0 in
    equals_so (added c.args.sum c.args.words.now) c.from_residual.result why c.from_residual.ensures.1
    (sym l.invariant ∙ next_fails c.args.words.now l.word-index c.word-item.result c.bytes.result.now c.loop-word-test.true c.word-item.is c.bytes.ensures.bytes l.total why c.in_err-total.ensures)

pub loop-word-preserved : goal.loop-word-preserved
loop-word-preserved c =
    let l = c.loop-word in
    next_added c.args.words.now l.word-index c.word-item.result c.bytes.result.now c.loop-word-test.true c.word-item.is c.bytes.ensures.bytes l.total c.in_ok-total.total c.in_ok-total.ensures ∙ l.invariant

pub returns : goal.returns
returns c = sym (all_added c.args.words.now c.loop-word.word-index c.loop-word.total c.loop-word-test.false) ∙ c.loop-word.invariant

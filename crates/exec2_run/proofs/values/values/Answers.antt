use Rattle.std.proofs.Common.{Err, List, ap}
use Rattle.std.proofs.lemmas.Result.{IfOk-from_err}
use Rattle.cms_text.specs.Texts.{Text}
use Rattle.exec2_run.specs.Given.{bound}
use Rattle.exec2_run.specs.Values.{behind, values}
use Rattle.exec2_run.proofs.WordsRead.{all_values, cut_value, kept_value}
use Rattle.exec2_run.proofs.values.values.Goals as goal

pub loop-word-init : goal.loop-word-init
loop-word-init c = ap (λ (front : List Text). behind front (values c.args.keeps_empty (bound c.args.seen.now) c.args.words.now)) c.new-values.ensures

pub returns-in_err-keep-in-Ok : goal.returns-in_err-keep-in-Ok
returns-in_err-keep-in-Ok c = IfOk-from_err c.from_residual.result _ c.from_residual.ensures.0

pub returns-in-Err-TooLong : goal.returns-in-Err-TooLong
returns-in-Err-TooLong c =
    cut_value c.args.keeps_empty (bound c.args.seen.now) c.args.words.now c.loop-word.word-index c.word-item.result c.bytes.result.now c.loop-word-test.true c.word-item.is c.bytes.ensures.bytes
    c.loop-word.values c.loop-word.invariant _ (c.in-Err-TooLong.ensures.too_long (ap Err c.in-Err-TooLong.field-0-is))

pub returns : goal.returns
returns c = all_values c.args.keeps_empty (bound c.args.seen.now) c.args.words.now c.loop-word.word-index c.loop-word.values c.loop-word-test.false c.loop-word.invariant

pub loop-word-preserved : goal.loop-word-preserved
loop-word-preserved c =
    kept_value c.args.keeps_empty (bound c.args.seen.now) c.args.words.now c.loop-word.word-index c.word-item.result c.bytes.result.now c.loop-word-test.true c.word-item.is c.bytes.ensures.bytes
    c.loop-word.values c.loop-word.invariant c.in-Ok.value c.keep.new.values c.in-Ok.ensures.value c.in_ok-keep-in-Ok.ensures

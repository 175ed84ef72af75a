use Rattle.std.proofs.Common.{◌≡◌, ◌∙◌, Err, List, ap}
use Rattle.cms_text.specs.Texts.{Text}
use Rattle.exec2_run.specs.Given.{bound}
use Rattle.exec2_run.specs.Readings.{in_front, names}
use Rattle.exec2_run.specs.Variables.{target}
use Rattle.exec2_run.proofs.Passed.{no_memory, part_fails}
use Rattle.exec2_run.proofs.WordsRead.{all_names, bad_name, good_name, no_front}
use Rattle.exec2_run.proofs.asked_line.names.Goals as goal

pub loop-word-init : goal.loop-word-init
loop-word-init c =
    let all = names (bound c.args.seen.now) c.args.words.now in
    ap (λ (front : List Text). in_front front all) c.new-names.ensures ∙ no_front all

pub returns-in_err-target : goal.returns-in_err-target
returns-in_err-target c =
    let b = bound c.args.seen.now in
    let why = c.in_err-target.field-0.0 in
    part_fails (names b c.args.words.now) c.from_residual.result why (target b c.word-item.result ≡ Err why) c.from_residual.ensures.1 c.in_err-target.ensures
    (bad_name b c.args.words.now c.loop-word.word-index c.word-item.result c.loop-word-test.true c.word-item.is c.loop-word.names c.loop-word.invariant why)

pub returns-in_err-push : goal.returns-in_err-push
returns-in_err-push c = no_memory (names (bound c.args.seen.now) c.args.words.now) c.from_residual-in_err-push.result c.from_residual-in_err-push.ensures.1

pub loop-word-preserved : goal.loop-word-preserved
loop-word-preserved c =
    good_name (bound c.args.seen.now) c.args.words.now c.loop-word.word-index c.word-item.result c.loop-word-test.true c.word-item.is c.loop-word.names c.loop-word.invariant c.in_ok-target.field-0
    c.push.new.self c.in_ok-target.ensures c.in_ok-push.ensures.ok

pub returns : goal.returns
returns c = all_names (bound c.args.seen.now) c.args.words.now c.loop-word.word-index c.loop-word.names c.loop-word-test.false c.loop-word.invariant

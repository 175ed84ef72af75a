use Rattle.std.proofs.Common.{◌≡◌, ◌-◌, Err, drop, inr, length, take}
use Rattle.exec2_run.specs.Given.{bound}
use Rattle.exec2_run.specs.Outputs.{no_words}
use Rattle.exec2_run.specs.Readings.{reading_of_text}
use Rattle.exec2_run.specs.Variables.{target}
use Rattle.exec2_run.proofs.KeywordsSaid.{no_text, text_and_more, text_named, text_unnamed}
use Rattle.exec2_run.proofs.Passed.{part_fails}
use Rattle.exec2_run.proofs.exec.ExecState.reading_of_text.Goals as goal

pub returns-in_default : goal.returns-in_default
returns-in_default c = inr (no_text c.args.words.now c.in_default.len_below c.args.self.now)

pub returns-in_err-name : goal.returns-in_err-name
returns-in_err-name c =
    let s = c.args.self.now in
    let why = c.in_err-name.field-0.0 in
    part_fails (reading_of_text s c.args.words.now) c.from_residual.result why (target (bound c.seen.result) c.name-item.result ≡ Err why) c.from_residual.ensures.1 c.in_err-name.ensures
    (text_unnamed c.args.words.now c.name-item.result c.in-len1-up.len_at_least c.name-item.is s (bound c.seen.result) why c.seen.ensures)

pub returns-in_err-no_words : goal.returns-in_err-no_words
returns-in_err-no_words c =
    let s = c.args.self.now in
    let words = c.args.words.now in
    let why = c.in_err-no_words.field-0.0 in
    part_fails (reading_of_text s words) c.from_residual-in_err-no_words.result why (no_words s (take (length words - 1) (drop 1 words)) ≡ Err why) c.from_residual-in_err-no_words.ensures.1
    c.in_err-no_words.ensures (text_and_more words c.name-item.result c.in-len1-up.len_at_least c.name-item.is s (bound c.seen.result) c.in_ok-name.name why c.seen.ensures
    c.in_ok-name.ensures)

pub returns : goal.returns
returns c =
    text_named c.args.words.now c.name-item.result c.in-len1-up.len_at_least c.name-item.is c.args.self.now (bound c.seen.result) c.in_ok-name.name c.in_ok-no_words.field-0
    c.seen.ensures c.in_ok-name.ensures c.in_ok-no_words.ensures

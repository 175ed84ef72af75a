use Rattle.std.proofs.Common.{◌≡◌, ◌-◌, Err, codes, drop, inr, length, subst, sym, take, true, false}
use Rattle.std.specs.Prelude.{Result}
use Rattle.exec2_run.specs.Faults.{Answers}
use Rattle.exec2_run.specs.Given.{bound}
use Rattle.exec2_run.specs.Outputs.{no_words}
use Rattle.exec2_run.specs.Readings.{names, reading_of}
use Rattle.exec2_run.specs.declared.asked_line.Reading.{Reading}
use Rattle.exec2_run.specs.declared.fault.Fault.{Fault}
use Rattle.exec2_run.proofs.KeywordsSaid.{args_fail, args_said, names_fail, names_said, no_reading, nothing_said, said, string_said}
use Rattle.exec2_run.proofs.Passed.{part_fails}
use Rattle.exec2_run.proofs.exec.ExecState.reading_of.Goals as goal

pub returns-in_default : goal.returns-in_default
returns-in_default c = inr (no_reading c.args.words.now c.in_default.len_below c.args.self.now)

pub returns-in_err-no_words : goal.returns-in_err-no_words
returns-in_err-no_words c =
    let s = c.args.self.now in
    let words = c.args.words.now in
    let why = c.in_err-no_words.field-0.0 in
    part_fails (reading_of s words) c.from_residual.result why (no_words s (take (length words - 1) (drop 1 words)) ≡ Err why) c.from_residual.ensures.1 c.in_err-no_words.ensures
    (args_fail words c.word-item.result c.in-len1-up.len_at_least c.word-item.is s why
    (said (codes "ARGS") c.word-item.result c.bytes.result.now c.is_keyword.result true c.is_keyword.ensures c.bytes.ensures.bytes c.if-is_keyword.true))

pub returns-then-is_keyword : goal.returns-then-is_keyword
returns-then-is_keyword c =
    args_said c.args.words.now c.word-item.result c.in-len1-up.len_at_least c.word-item.is c.args.self.now c.in_ok-no_words.field-0
    (said (codes "ARGS") c.word-item.result c.bytes.result.now c.is_keyword.result true c.is_keyword.ensures c.bytes.ensures.bytes c.if-is_keyword.true) c.in_ok-no_words.ensures

pub returns-in_err-names : goal.returns-in_err-names
returns-in_err-names c =
    let s = c.args.self.now in
    let words = c.args.words.now in
    let why = c.in_err-names.field-0.0 in
    part_fails (reading_of s words) c.from_residual-in_err-names.result why (names (bound c.seen.result) (take (length words - 1) (drop 1 words)) ≡ Err why) c.from_residual-in_err-names.ensures.1
    c.in_err-names.ensures
    (names_fail words c.word-item.result c.in-len1-up.len_at_least c.word-item.is s (bound c.seen.result) why c.seen.ensures
    (said (codes "ARGS") c.word-item.result c.bytes.result.now c.is_keyword.result false c.is_keyword.ensures c.bytes.ensures.bytes c.if-is_keyword.false)
    (said (codes "VARS") c.word-item.result c.bytes-2.result.now c.is_keyword-2.result true c.is_keyword-2.ensures c.bytes-2.ensures.bytes c.if-is_keyword-2.true))

pub returns-then-is_keyword-2 : goal.returns-then-is_keyword-2
returns-then-is_keyword-2 c =
    names_said c.args.words.now c.word-item.result c.in-len1-up.len_at_least c.word-item.is c.args.self.now (bound c.seen.result) c.in_ok-names.names c.seen.ensures
    (said (codes "ARGS") c.word-item.result c.bytes.result.now c.is_keyword.result false c.is_keyword.ensures c.bytes.ensures.bytes c.if-is_keyword.false)
    (said (codes "VARS") c.word-item.result c.bytes-2.result.now c.is_keyword-2.result true c.is_keyword-2.ensures c.bytes-2.ensures.bytes c.if-is_keyword-2.true) c.in_ok-names.ensures

pub returns-then-is_keyword-3 : goal.returns-then-is_keyword-3
returns-then-is_keyword-3 c =
    subst (λ (defined : Result Reading Fault). Answers defined c.reading_of_text.result)
    (sym (string_said c.args.words.now c.word-item.result c.in-len1-up.len_at_least c.word-item.is c.args.self.now
    (said (codes "ARGS") c.word-item.result c.bytes.result.now c.is_keyword.result false c.is_keyword.ensures c.bytes.ensures.bytes c.if-is_keyword.false)
    (said (codes "VARS") c.word-item.result c.bytes-2.result.now c.is_keyword-2.result false c.is_keyword-2.ensures c.bytes-2.ensures.bytes c.if-is_keyword-2.false)
    (said (codes "STRING") c.word-item.result c.bytes-3.result.now c.is_keyword-3.result true c.is_keyword-3.ensures c.bytes-3.ensures.bytes c.if-is_keyword-3.true)))
    c.reading_of_text.ensures

pub returns : goal.returns
returns c =
    inr (nothing_said c.args.words.now c.word-item.result c.in-len1-up.len_at_least c.word-item.is c.args.self.now
    (said (codes "ARGS") c.word-item.result c.bytes.result.now c.is_keyword.result false c.is_keyword.ensures c.bytes.ensures.bytes c.if-is_keyword.false)
    (said (codes "VARS") c.word-item.result c.bytes-2.result.now c.is_keyword-2.result false c.is_keyword-2.ensures c.bytes-2.ensures.bytes c.if-is_keyword-2.false)
    (said (codes "STRING") c.word-item.result c.bytes-3.result.now c.is_keyword-3.result false c.is_keyword-3.ensures c.bytes-3.ensures.bytes c.if-is_keyword-3.false))

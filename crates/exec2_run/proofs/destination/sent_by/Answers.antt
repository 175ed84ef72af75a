use Rattle.std.proofs.Common.{◌≡◌, ◌∙◌, Err, inr, sym}
use Rattle.exec2_run.specs.Destinations.{subcommanded_by}
use Rattle.exec2_run.specs.Values.{joined}
use Rattle.exec2_run.proofs.Passed.{fails_so, no_memory, part_fails}
use Rattle.exec2_run.proofs.SentWords.{sends_all, sends_cut, sends_nothing, sends_unjoined}
use Rattle.exec2_run.proofs.destination.sent_by.Goals as goal

pub returns-in_default : goal.returns-in_default
returns-in_default c = inr (sends_nothing c.args.words.now c.args.is_cut c.in_default.len_below c.missing.result c.missing.ensures)

pub returns-in_err-whole : goal.returns-in_err-whole
returns-in_err-whole c =
    let a = c.args in
    let why = c.in_err-whole.field-0.0 in
    fails_so (subcommanded_by a.words.now a.is_cut) c.from_residual.result why c.from_residual.ensures.1
    (sends_cut a.words.now c.word-item.result a.is_cut c.in-len1-up.len_at_least c.word-item.is why (sym c.in_err-whole.ensures))

pub returns-in_err-copied : goal.returns-in_err-copied
returns-in_err-copied c = no_memory (subcommanded_by c.args.words.now c.args.is_cut) c.from_residual-in_err-copied.result c.from_residual-in_err-copied.ensures.1

pub returns-in_err-text : goal.returns-in_err-text
returns-in_err-text c =
    let a = c.args in
    let why = c.in_err-text.field-0.0 in
    let copy = c.in_ok-copied.field-0 in
    part_fails (subcommanded_by a.words.now a.is_cut) c.from_residual-in_err-text.result why (joined copy ≡ Err why) c.from_residual-in_err-text.ensures.1 c.in_err-text.ensures
    (λ bad. sends_unjoined a.words.now c.word-item.result a.is_cut c.in-len1-up.len_at_least c.word-item.is c.in_ok-whole.field-0 copy why (sym c.in_ok-whole.ensures) c.in_ok-copied.ensures bad)

pub returns-in_err-word : goal.returns-in_err-word
returns-in_err-word c = no_memory (subcommanded_by c.args.words.now c.args.is_cut) c.from_residual-in_err-word.result c.from_residual-in_err-word.ensures.1

pub returns : goal.returns
returns c =
    sends_all c.args.words.now c.word-item.result c.args.is_cut c.in-len1-up.len_at_least c.word-item.is c.in_ok-whole.field-0 c.in_ok-copied.field-0 c.in_ok-text.text c.in_ok-word.word
    (sym c.in_ok-whole.ensures) c.in_ok-copied.ensures c.in_ok-text.ensures (c.in_ok-word.ensures ∙ c.bytes.ensures.bytes)

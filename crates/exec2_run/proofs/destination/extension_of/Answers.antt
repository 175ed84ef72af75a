use Rattle.std.proofs.Common.{◌∙◌, inr, sym}
use Rattle.exec2_run.specs.Destinations.{extension_named_by}
use Rattle.exec2_run.proofs.Passed.{fails_so, no_memory}
use Rattle.exec2_run.proofs.SentWords.{names_it, names_more, names_nothing}
use Rattle.exec2_run.proofs.destination.extension_of.Goals as goal

pub returns-in_default : goal.returns-in_default
returns-in_default c = inr (names_nothing c.args.words.now c.args.is_cut c.in_default.len_below c.missing.result c.missing.ensures)

pub returns-in_err-ended : goal.returns-in_err-ended
returns-in_err-ended c =
    let a = c.args in
    let why = c.in_err-ended.field-0.0 in
    fails_so (extension_named_by a.words.now a.is_cut) c.from_residual.result why c.from_residual.ensures.1
    (names_more a.words.now c.word-item.result a.is_cut c.in-len1-up.len_at_least c.word-item.is why (sym c.in_err-ended.ensures))

pub returns-in_err-word : goal.returns-in_err-word
returns-in_err-word c = no_memory (extension_named_by c.args.words.now c.args.is_cut) c.from_residual-in_err-word.result c.from_residual-in_err-word.ensures.1

pub returns : goal.returns
returns c =
    names_it c.args.words.now c.word-item.result c.args.is_cut c.in-len1-up.len_at_least c.word-item.is c.in_ok-ended.field-0 c.in_ok-word.word (sym c.in_ok-ended.ensures)
    (c.in_ok-word.ensures ∙ c.bytes.ensures.bytes)

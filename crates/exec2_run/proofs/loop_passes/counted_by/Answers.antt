use Rattle.std.proofs.Common.{sym}
use Rattle.exec2_run.specs.Loops.{counted_by}
use Rattle.exec2_run.proofs.KeywordsSaid.{counts_more, counts_not, counts_so, no_counts}
use Rattle.exec2_run.proofs.Passed.{equals_so}
use Rattle.exec2_run.proofs.loop_passes.counted_by.Goals as goal

pub returns-in_default : goal.returns-in_default
returns-in_default c = sym (no_counts c.args.words.now c.in_default.len_below c.args.is_cut c.missing.result c.missing.ensures)

pub returns-in_err-passes : goal.returns-in_err-passes
returns-in_err-passes c =
    let a = c.args in
    let why = c.in_err-passes.field-0.0 in
    equals_so (counted_by a.words.now a.is_cut) c.from_residual.result why c.from_residual.ensures.1
    (counts_not a.words.now c.count-item.result c.in-len1-up.len_at_least c.count-item.is c.bytes.result.now c.bytes.ensures.bytes a.is_cut why c.in_err-passes.ensures)

pub returns-in-Ok : goal.returns-in-Ok
returns-in-Ok c =
    sym (counts_so c.args.words.now c.count-item.result c.in-len1-up.len_at_least c.count-item.is c.bytes.result.now c.bytes.ensures.bytes c.args.is_cut c.in_ok-passes.passes
    tt c.in_ok-passes.ensures c.in-Ok.ensures)

pub returns-in-Err : goal.returns-in-Err
returns-in-Err c =
    sym (counts_more c.args.words.now c.count-item.result c.in-len1-up.len_at_least c.count-item.is c.bytes.result.now c.bytes.ensures.bytes c.args.is_cut c.in_ok-passes.passes
    c.in-Err.fault c.in_ok-passes.ensures c.in-Err.ensures)

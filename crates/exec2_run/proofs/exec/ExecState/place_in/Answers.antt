use Rattle.exec2_run.specs.Jumps.{gone_by}
use Rattle.exec2_run.proofs.Passed.{match_fails_so}
use Rattle.exec2_run.proofs.WordsTaken.{goes_not, goes_nowhere, goes_on, goes_there}
use Rattle.exec2_run.proofs.exec.ExecState.place_in.Goals as goal

pub returns-in_default : goal.returns-in_default
returns-in_default c = goes_nowhere c.args.self.now c.args.words.now c.args.is_cut c.missing.result c.in_default.len_below c.missing.ensures

pub returns-in_err-place : goal.returns-in_err-place
returns-in_err-place c =
    let a = c.args in
    let why = c.in_err-place.field-0.0 in
    match_fails_so (gone_by a.self.now a.words.now a.is_cut) c.from_residual.result _ why c.from_residual.ensures.1
    (goes_not a.self.now a.words.now c.label-item.result c.bytes.result.now a.is_cut c.in-len1-up.len_at_least c.label-item.is c.bytes.ensures.bytes why c.in_err-place.ensures)

pub returns-in_err-ended : goal.returns-in_err-ended
returns-in_err-ended c =
    let a = c.args in
    let why = c.in_err-ended.field-0.0 in
    match_fails_so (gone_by a.self.now a.words.now a.is_cut) c.from_residual-in_err-ended.result _ why c.from_residual-in_err-ended.ensures.1
    (goes_on a.self.now a.words.now c.label-item.result c.bytes.result.now a.is_cut c.in-len1-up.len_at_least c.label-item.is c.bytes.ensures.bytes c.in_ok-place.place why c.in_ok-place.ensures
    c.in_err-ended.ensures)

pub returns : goal.returns
returns c =
    goes_there c.args.self.now c.args.words.now c.label-item.result c.bytes.result.now c.args.is_cut c.in-len1-up.len_at_least c.label-item.is c.bytes.ensures.bytes c.in_ok-place.place
    c.in_ok-ended.field-0 c.in_ok-place.ensures c.in_ok-ended.ensures

use Rattle.std.proofs.Common.{◌∙◌, ap, ok_or, w64, FitsSigned, rules}
use Rattle.std.proofs.lemmas.Int.{to_z-of_z}
use Rattle.exec2_run.specs.Jumps.{skipped_by, place_after}
use Rattle.exec2_run.specs.declared.fault.Fault.TheVariants.{NotNumber}
use Rattle.exec2_run.proofs.Passed.{match_fails_so}
use Rattle.exec2_run.proofs.WordsTaken.{skips_by_one, skips_cut, skips_more, skips_no_number, skips_past, skips_so}
use Rattle.exec2_run.proofs.exec.ExecState.place_behind.Goals as goal

pub returns-in_err-whole : goal.returns-in_err-whole
returns-in_err-whole c =
    let a = c.args in
    let why = c.in_err-whole.field-0.0 in
    match_fails_so (skipped_by a.self.now a.words.now a.is_cut) c.from_residual.result _ why c.from_residual.ensures.1
    (skips_cut a.self.now a.words.now a.is_cut c.in_default.len_below why c.in_err-whole.ensures)

pub returns-in_default : goal.returns-in_default
returns-in_default c =
    skips_by_one c.args.self.now c.args.words.now c.args.is_cut c.in_default.len_below c.place_after.result c.in_ok-whole.field-0 c.in_ok-whole.ensures c.place_after.ensures

pub returns-in_default-number : goal.returns-in_default-number
returns-in_default-number c =
    skips_no_number c.args.self.now c.args.words.now c.count-item.result c.bytes.result.now c.args.is_cut c.in-len1-up.len_at_least c.count-item.is c.bytes.ensures.bytes NotNumber
    (ap (λ o. ok_or o NotNumber) c.in_default-number.ensures)

pub returns-in_err-place : goal.returns-in_err-place
returns-in_err-place c =
    let a = c.args in
    let n = c.in-Some.count in
    let fits : FitsSigned w64 n = search rules in
    let why = c.in_err-place.field-0.0 in
    match_fails_so (skipped_by a.self.now a.words.now a.is_cut) c.from_residual-in_err-place.result _ why c.from_residual-in_err-place.ensures.1
    (skips_past a.self.now a.words.now c.count-item.result c.bytes.result.now a.is_cut c.in-len1-up.len_at_least c.count-item.is c.bytes.ensures.bytes n why
    (ap (λ o. ok_or o NotNumber) c.in-Some.ensures) (c.in_err-place.ensures ∙ ap (place_after a.self.now) (to_z-of_z w64 n fits)))

pub returns-in_err-ended : goal.returns-in_err-ended
returns-in_err-ended c =
    let a = c.args in
    let n = c.in-Some.count in
    let fits : FitsSigned w64 n = search rules in
    let why = c.in_err-ended.field-0.0 in
    match_fails_so (skipped_by a.self.now a.words.now a.is_cut) c.from_residual-in_err-ended.result _ why c.from_residual-in_err-ended.ensures.1
    (skips_more a.self.now a.words.now c.count-item.result c.bytes.result.now a.is_cut c.in-len1-up.len_at_least c.count-item.is c.bytes.ensures.bytes n c.in_ok-place.place why
    (ap (λ o. ok_or o NotNumber) c.in-Some.ensures) (c.in_ok-place.ensures ∙ ap (place_after a.self.now) (to_z-of_z w64 n fits)) c.in_err-ended.ensures)

pub returns : goal.returns
returns c =
    let a = c.args in
    let n = c.in-Some.count in
    let fits : FitsSigned w64 n = search rules in
    skips_so a.self.now a.words.now c.count-item.result c.bytes.result.now a.is_cut c.in-len1-up.len_at_least c.count-item.is c.bytes.ensures.bytes n c.in_ok-place.place c.in_ok-ended.field-0
    (ap (λ o. ok_or o NotNumber) c.in-Some.ensures) (c.in_ok-place.ensures ∙ ap (place_after a.self.now) (to_z-of_z w64 n fits)) c.in_ok-ended.ensures

use Rattle.std.proofs.Common.{◌≤◌, ◌∙◌, length, ap, le_of_eq, le_trans, subst, sym}
use Rattle.std.specs.Prelude.{Ok}
use Rattle.cms_text.specs.Texts.{Text}
use Rattle.exec2_funcs.specs.Values.{last_filled}
use Rattle.exec2_funcs.proofs.Filled.{filled_so, length_filled}
use Rattle.exec2_funcs.proofs.Passed.{no_memory}
use Rattle.exec2_funcs.proofs.bytes.last_filled.Goals as goal

pub returns-in_err-bytes : goal.returns-in_err-bytes
returns-in_err-bytes c = no_memory (Ok (last_filled c.args.count c.args.text.now)) c.from_residual.result c.from_residual.ensures.1

pub returns-in_err-extend_from_slice : goal.returns-in_err-extend_from_slice
returns-in_err-extend_from_slice c =
    no_memory (Ok (last_filled c.args.count c.args.text.now)) c.from_residual-in_err-extend_from_slice.result c.from_residual-in_err-extend_from_slice.ensures.1

pub take-requires : goal.take-requires
take-requires c =
    let a = c.args in
    let filled = filled_so a.text.now c.in_ok-bytes.bytes.items c.extend_from_slice.new.self.items a.count c.min-kept.result c.min-kept.ensures (c.in_ok-bytes.ensures.items_if_clones_equal (λ y is. is))
    c.in_ok-extend_from_slice.ensures.items in
    subst (λ (t : Text). length t ≤ 255) (sym filled) (le_trans (le_of_eq (length_filled a.count a.text.now)) c.requires)

pub returns : goal.returns
returns c =
    let a = c.args in
    sym (ap Ok (c.take.ensures ∙ filled_so a.text.now c.in_ok-bytes.bytes.items c.extend_from_slice.new.self.items a.count c.min-kept.result c.min-kept.ensures
    (c.in_ok-bytes.ensures.items_if_clones_equal (λ y is. is)) c.in_ok-extend_from_slice.ensures.items))

use Rattle.std.proofs.Common.{◌≡◌, ◌∙◌, ℕ, List, Some, slice_get, sym, ap}
use Rattle.std.proofs.lemmas.Option.{slice_get-get_or}
use Rattle.std.proofs.lemmas.Result.{err_from_is_err_and}
use Rattle.cms_search.proofs.Lined.{all_said, one_off, one_said}
use Rattle.cms_search.proofs.output.say_lines.Goals as goal

pub returns-in_err-say : goal.returns-in_err-say
returns-in_err-say g c =
    let p = err_from_is_err_and c.from_residual.result c.from_residual.ensures.1 in
    let items = c.as_slice-line-items.ensures in
    let bytes = c.bytes.ensures.bytes in
    let said = rw bytes at c.in_err-say.ensures in
    let k = c.loop-line.line-index in
    let at : slice_get c.args.lines.now k ≡ Some c.line-item.result =
    ap (λ (l : List (List ℕ)). slice_get l k) (sym items) ∙ slice_get-get_or c.as_slice-line-items.result.now k c.line-item.result c.loop-line-test.true ∙ ap Some (sym c.line-item.is) in
    rw (p.1, p.2) (one_off c.args.lines.now _ _ _ k c.line-item.result _ at c.loop-line.invariant said)

pub loop-line-preserved : goal.loop-line-preserved
loop-line-preserved g c =
    let items = c.as_slice-line-items.ensures in
    let bytes = c.bytes.ensures.bytes in
    let said = rw bytes at c.in_ok-say.ensures in
    let k = c.loop-line.line-index in
    let at : slice_get c.args.lines.now k ≡ Some c.line-item.result =
    ap (λ (l : List (List ℕ)). slice_get l k) (sym items) ∙ slice_get-get_or c.as_slice-line-items.result.now k c.line-item.result c.loop-line-test.true ∙ ap Some (sym c.line-item.is) in
    one_said c.args.lines.now _ _ _ k c.line-item.result _ at c.loop-line.invariant said

pub returns : goal.returns
returns g c =
    let items = c.as_slice-line-items.ensures in
    let over = rw items at c.loop-line-test.false in
    all_said c.args.lines.now _ _ c.loop-line.line-index tt over c.loop-line.invariant

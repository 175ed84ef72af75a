use Rattle.std.proofs.Common.{◌≡◌, ◌∙◌, ◌++◌, List, [], ◌∷◌, reverse, take, ap, arith}
use Rattle.cms_text.specs.Texts.{Text}
use Rattle.cms_edit.proofs.Reversed.{one_more_behind}
use Rattle.cms_edit.proofs.buffer.push_records_back.Goals as goal

pub loop-nth-preserved : goal.loop-nth-preserved
loop-nth-preserved c =
    let from = c.args.from.now in
    let lines = c.args.records.now in
    let item : c.in_ok-of.field-0 ≡ c.index-from-from.result = c.in_ok-of.ensures ∙ c.bytes.ensures.bytes in
    c.in_ok-push.ensures.ok ∙ ap (λ (xs : List Text). xs ++ c.in_ok-of.field-0 ∷ []) c.loop-nth.invariant
    ∙ ap (λ (x : Text). (lines ++ take c.loop-nth.nth (reverse from)) ++ x ∷ []) item
    ∙ one_more_behind lines from c.loop-nth.nth c.index-from-from.result (omega arith) c.index-from-from.is

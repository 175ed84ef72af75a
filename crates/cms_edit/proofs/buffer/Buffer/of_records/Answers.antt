use Rattle.std.proofs.Common.{◌≡◌, ◌∙◌, ◌++◌, List, [], ◌∷◌, reverse, take, ap, arith}
use Rattle.cms_text.specs.Texts.{Text}
use Rattle.cms_edit.proofs.Reversed.{one_more}
use Rattle.cms_edit.proofs.buffer.Buffer.of_records.Goals as goal

pub loop-nth-preserved : goal.loop-nth-preserved
loop-nth-preserved c =
    let records = c.args.records.now in
    let done = take c.loop-nth.nth (reverse records) in
    let item : c.in_ok-of.field-0 ≡ c.index-records-records.result = c.in_ok-of.ensures ∙ c.bytes.ensures.bytes in
    c.in_ok-push.ensures.items ∙ ap (λ (xs : List Text). xs ++ c.in_ok-of.field-0 ∷ []) c.loop-nth.invariant
    ∙ ap (λ (x : Text). done ++ x ∷ []) item
    ∙ one_more records c.loop-nth.nth c.index-records-records.result (omega arith) c.index-records-records.is

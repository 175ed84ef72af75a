use Rattle.std.proofs.Common.{◌≡◌, ◌∙◌, ◌∷◌, [], ◌++◌, ◌+◌, ◌<◌, ap, arith, length}
use Rattle.std.proofs.lemmas.List.{append_assoc, length-append}
use Rattle.std.proofs.lemmas.Result.{IfOk-from_err, IfOk-weaker}
use Rattle.cms_text.specs.Texts.{Text}
use Rattle.exec2_funcs.proofs.Passed.{fault_at_err, fault_led}
use Rattle.exec2_funcs.proofs.join.append_word.Goals as goal

pub append-requires : goal.append-requires
append-requires c = c.requires

pub returns-in_err-append-clause-added : goal.returns-in_err-append-clause-added
returns-in_err-append-clause-added c = IfOk-from_err c.from_residual.result _ c.from_residual.ensures.0

pub returns-in_err-append-clause-short : goal.returns-in_err-append-clause-short
returns-in_err-append-clause-short c = IfOk-from_err c.from_residual.result _ c.from_residual.ensures.0

pub returns-in_err-append-clause-fault : goal.returns-in_err-append-clause-fault
returns-in_err-append-clause-fault c =
    fault_at_err c.from_residual.result c.in_err-append.field-0.0 _ (255 < length c.args.text.now.items + length c.args.word.now + 1) c.from_residual.ensures.1 c.in_err-append.ensures.fault
    (λ long. omega (arith, long))

pub append-requires-2 : goal.append-requires-2
append-requires-2 c = c.in_ok-append.ensures.short

pub returns-clause-added : goal.returns-clause-added
returns-clause-added c =
    IfOk-weaker c.append-2.result _ _ (λ u is. is ∙ ap (λ (t : Text). t ++ c.args.word.now) c.in_ok-append.ensures.added ∙ append_assoc c.args.text.now.items (0x40 ∷ []) c.args.word.now)
    c.append-2.ensures.added

pub returns-clause-short : goal.returns-clause-short
returns-clause-short c = c.append-2.ensures.short

pub returns-clause-fault : goal.returns-clause-fault
returns-clause-fault c =
    let same = ap length c.in_ok-append.ensures.added in
    fault_led c.append-2.result _ (255 < length c.args.text.now.items + length c.args.word.now + 1)
    (λ long. omega (arith, long, same, length-append c.args.text.now.items (0x40 ∷ []))) c.append-2.ensures.fault

use Rattle.std.proofs.Common.{◌∙◌, ap}
use Rattle.std.proofs.lemmas.Result.{IfOk-from_err}
use Rattle.cms_text.specs.Texts.{without_one_blank}
use Rattle.exec2_run.specs.Given.{behind_name}
use Rattle.exec2_run.proofs.given.AtStart.of.Goals as goal

pub returns-in_err-part_word : goal.returns-in_err-part_word
returns-in_err-part_word c = IfOk-from_err c.from_residual.result _ c.from_residual.ensures.0

pub returns-in_err-part_word-2 : goal.returns-in_err-part_word-2
returns-in_err-part_word-2 c = IfOk-from_err c.from_residual-in_err-part_word-2.result _ c.from_residual-in_err-part_word-2.ensures.0

pub returns-in_err-mode : goal.returns-in_err-mode
returns-in_err-mode c = IfOk-from_err c.from_residual-in_err-mode.result _ c.from_residual-in_err-mode.ensures.0

pub returns-in_err-of : goal.returns-in_err-of
returns-in_err-of c = IfOk-from_err c.from_residual-in_err-of.result _ c.from_residual-in_err-of.ensures.0

pub returns-in_err-of-2 : goal.returns-in_err-of-2
returns-in_err-of-2 c = IfOk-from_err c.from_residual-in_err-of-2.result _ c.from_residual-in_err-of-2.ensures.0

pub returns : goal.returns
returns c =
    let rest = c.in_ok-of.ensures ∙ (c.without_one_blank.ensures.text ∙ ap without_one_blank (c.behind_name.ensures.rest ∙ ap behind_name c.bytes.ensures.bytes)) in
    let called = c.in_ok-of-2.ensures ∙ c.bytes-2.ensures.bytes in
    λ k. record {
      name = c.in_ok-part_word.ensures k;
      kind = c.in_ok-part_word-2.ensures k;
      mode = c.in_ok-mode.ensures k;
      rest = rest k;
      called = called k;
    }

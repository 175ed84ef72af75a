use Rattle.std.proofs.Common.{◌∙◌, List, sym, ap}
use Rattle.cms_line.specs.declared.token.Token.{Token}
use Rattle.cms_operands.specs.Choices.{all_valued}
use Rattle.cms_operands.proofs.ChoiceLemmas.{answers_same, as_read}
use Rattle.cms_operands.proofs.options.chosen_options.Goals as goal

pub returns : goal.returns
returns g c =
    answers_same _ _ c.all_valued.result
    (ap (λ (ws : List Token). all_valued c.args.forms.now ws c.in_ok-accepted.accepted.refused c.in_ok-accepted.accepted.chosen) c.as_slice.ensures
    ∙ sym (as_read c.args.forms.now c.args.words.now c.deref.result.now c.in_ok-accepted.accepted.chosen c.in_ok-accepted.accepted.refused
    (c.deref.ensures.value ∙ c.in_ok-rules.ensures) c.in_ok-accepted.ensures))
    c.all_valued.ensures

use Rattle.std.proofs.Common.{◌∙◌, List, sym, ap}
use Rattle.cms_line.specs.declared.choices.Choice.{Choice}
use Rattle.cms_operands.specs.Choices.{all_valued}
use Rattle.cms_operands.proofs.ChoiceLemmas.{answers_same, ended, ended_refused, is_refused, stopped, went_on}
use Rattle.cms_operands.proofs.options.all_valued.Goals as goal

pub returns-in_err-valued : goal.returns-in_err-valued
returns-in_err-valued g c =
    answers_same _ _ c.from_residual.result (ap (λ (cs : List Choice). all_valued c.args.forms.now c.args.words.now c.args.accepted.now.refused cs) c.as_slice-choice-items.ensures)
    (is_refused _ c.from_residual.result c.in_err-valued.field-0.0 c.from_residual.ensures.1
    (stopped c.args.forms.now c.args.words.now c.args.accepted.now.refused _ c.loop-choice.chosen c.as_slice-choice-items.result.now c.loop-choice.choice-index
    c.loop-choice.invariant c.in_err-valued.field-0.0 c.loop-choice-test.true (sym c.in_err-valued.ensures)))

pub loop-choice-preserved : goal.loop-choice-preserved
loop-choice-preserved g c =
    went_on c.args.forms.now c.args.words.now c.args.accepted.now.refused _ c.loop-choice.chosen c.as_slice-choice-items.result.now c.loop-choice.choice-index
    c.loop-choice.invariant c.push.new.self c.in_ok-valued.field-0 c.loop-choice-test.true (sym c.in_ok-valued.ensures) c.in_ok-push.ensures.ok

pub returns-in-Some : goal.returns-in-Some
returns-in-Some g c =
    sym (ap (λ (cs : List Choice). all_valued c.args.forms.now c.args.words.now c.args.accepted.now.refused cs) c.as_slice-choice-items.ensures)
    ∙ ended_refused c.args.forms.now c.args.words.now c.args.accepted.now.refused _ c.loop-choice.chosen c.as_slice-choice-items.result.now c.loop-choice.choice-index
    c.loop-choice.invariant c.in-Some.why c.loop-choice-test.false (sym c.refusal_of.ensures ∙ c.in-Some.is)

pub returns-in-None : goal.returns-in-None
returns-in-None g c =
    sym (ap (λ (cs : List Choice). all_valued c.args.forms.now c.args.words.now c.args.accepted.now.refused cs) c.as_slice-choice-items.ensures)
    ∙ ended c.args.forms.now c.args.words.now c.args.accepted.now.refused _ c.loop-choice.chosen c.as_slice-choice-items.result.now c.loop-choice.choice-index
    c.loop-choice.invariant c.loop-choice-test.false (sym c.refusal_of.ensures ∙ c.in-None.is)

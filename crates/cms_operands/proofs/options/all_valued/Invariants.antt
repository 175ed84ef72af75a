use Rattle.std.proofs.Common.{drop}
use Rattle.cms_operands.specs.Choices.{all_valued}
use Rattle.cms_operands.proofs.ChoiceLemmas.{IsWhole}
use Rattle.cms_operands.proofs.options.all_valued.Given as goal

abbrev pub invariant-loop-choice : goal.invariant-loop-choice
invariant-loop-choice g l =
    IsWhole l.forms l.words l.fn.accepted.refused (all_valued l.forms l.words l.fn.accepted.refused l.choice-items) l.chosen (drop l.choice-index l.choice-items)

use Rattle.cms_operands.proofs.Gotten.{ok_at_err}
use Rattle.cms_operands.proofs.refusal.Refusal.message.Goals as goal

pub returns-in_err-text_at-in-BadName : goal.returns-in_err-text_at-in-BadName
returns-in_err-text_at-in-BadName c = ok_at_err _ c.from_residual.result _ c.from_residual.ensures.1

pub returns-in_err-text_at-in-BadMode : goal.returns-in_err-text_at-in-BadMode
returns-in_err-text_at-in-BadMode c = ok_at_err _ c.from_residual-in_err-text_at-in-BadMode.result _ c.from_residual-in_err-text_at-in-BadMode.ensures.1

pub returns-in_err-text_at-in-BadOperand : goal.returns-in_err-text_at-in-BadOperand
returns-in_err-text_at-in-BadOperand c = ok_at_err _ c.from_residual-in_err-text_at-in-BadOperand.result _ c.from_residual-in_err-text_at-in-BadOperand.ensures.1

pub returns-in_err-text_at-in-UnknownOption : goal.returns-in_err-text_at-in-UnknownOption
returns-in_err-text_at-in-UnknownOption c = ok_at_err _ c.from_residual-in_err-text_at-in-UnknownOption.result _ c.from_residual-in_err-text_at-in-UnknownOption.ensures.1

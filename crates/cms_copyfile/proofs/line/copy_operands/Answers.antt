use Rattle.std.proofs.lemmas.Result.{IfOk-from_err}
use Rattle.cms_copyfile.proofs.line.copy_operands.Goals as goal

pub returns-in_err-names-clause-number : goal.returns-in_err-names-clause-number
returns-in_err-names-clause-number c = IfOk-from_err c.from_residual.result _ c.from_residual.ensures.0

pub returns-in_err-needed-clause-number : goal.returns-in_err-needed-clause-number
returns-in_err-needed-clause-number c = IfOk-from_err c.from_residual-in_err-needed.result _ c.from_residual-in_err-needed.ensures.0

pub returns-in_err-mode-clause-number : goal.returns-in_err-mode-clause-number
returns-in_err-mode-clause-number c = IfOk-from_err c.from_residual-in_err-mode.result _ c.from_residual-in_err-mode.ensures.0

pub returns-in_err-output-clause-number : goal.returns-in_err-output-clause-number
returns-in_err-output-clause-number c = IfOk-from_err c.from_residual-in_err-output.result _ c.from_residual-in_err-output.ensures.0

pub returns-in_err-ended-clause-number : goal.returns-in_err-ended-clause-number
returns-in_err-ended-clause-number c = IfOk-from_err c.from_residual-in_err-ended.result _ c.from_residual-in_err-ended.ensures.0

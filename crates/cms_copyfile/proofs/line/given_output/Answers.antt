use Rattle.std.proofs.lemmas.Result.{IfOk-from_err}
use Rattle.cms_files.proofs.OutputModes.{mode_out}
use Rattle.cms_copyfile.proofs.line.given_output.Goals as goal

pub returns-clause-number : goal.returns-clause-number
returns-clause-number c = mode_out 6 _ c.in_ok-mode.mode c.in_ok-mode.ensures

pub returns-in_err-name-clause-number : goal.returns-in_err-name-clause-number
returns-in_err-name-clause-number c = IfOk-from_err c.from_residual.result _ c.from_residual.ensures.0

pub returns-in_err-needed-clause-number : goal.returns-in_err-needed-clause-number
returns-in_err-needed-clause-number c = IfOk-from_err c.from_residual-in_err-needed.result _ c.from_residual-in_err-needed.ensures.0

pub returns-in_err-mode-clause-number : goal.returns-in_err-mode-clause-number
returns-in_err-mode-clause-number c = IfOk-from_err c.from_residual-in_err-mode.result _ c.from_residual-in_err-mode.ensures.0

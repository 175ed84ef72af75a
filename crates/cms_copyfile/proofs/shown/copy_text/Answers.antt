use Rattle.std.proofs.lemmas.Result.{IfOk-from_err}
use Rattle.cms_copyfile.proofs.shown.copy_text.Goals as goal

pub returns-in_err-text : goal.returns-in_err-text
returns-in_err-text c = IfOk-from_err c.from_residual.result _ c.from_residual.ensures.0

pub returns-in_err-extend_from_slice : goal.returns-in_err-extend_from_slice
returns-in_err-extend_from_slice c = IfOk-from_err c.from_residual-in_err-extend_from_slice.result _ c.from_residual-in_err-extend_from_slice.ensures.0

pub returns-in_err-file_text : goal.returns-in_err-file_text
returns-in_err-file_text c = IfOk-from_err c.from_residual-in_err-file_text.result _ c.from_residual-in_err-file_text.ensures.0

pub returns-in_err-extend_from_slice-2 : goal.returns-in_err-extend_from_slice-2
returns-in_err-extend_from_slice-2 c = IfOk-from_err c.from_residual-in_err-extend_from_slice-2.result _ c.from_residual-in_err-extend_from_slice-2.ensures.0

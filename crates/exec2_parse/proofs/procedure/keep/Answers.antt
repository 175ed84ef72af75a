use Rattle.std.proofs.Common.{◌∙◌, ap}
use Rattle.std.proofs.lemmas.Result.{IfOk-from_err}
use Rattle.exec2_parse.specs.Statements.{lines_in}
use Rattle.exec2_parse.proofs.Procedures.{kept_last}
use Rattle.exec2_parse.proofs.procedure.keep.Goals as goal

pub returns-in_err-of : goal.returns-in_err-of
returns-in_err-of c = IfOk-from_err c.from_residual.result _ c.from_residual.ensures.0

pub returns-in_err-push : goal.returns-in_err-push
returns-in_err-push c = IfOk-from_err c.from_residual-in_err-push.result _ c.from_residual-in_err-push.ensures.0

pub returns : goal.returns
returns c = ap lines_in c.in_ok-push.ensures.items ∙ kept_last c.args.statements.now.items c.in_ok-of.field-0 c.args.text.now c.in_ok-of.ensures

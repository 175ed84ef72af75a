use Rattle.std.proofs.lemmas.Result.{IfOk-from_err}
use Rattle.std.proofs.Common.{◌∙◌, ◌+◌, sym, ap}
use Rattle.exec2_run.specs.Variables.{numbered}
use Rattle.exec2_run.proofs.Numbered.{numbered_all, numbered_next}
use Rattle.exec2_run.proofs.variables.numbered.Goals as goal

pub returns-in_err-set_argument : goal.returns-in_err-set_argument
returns-in_err-set_argument c = IfOk-from_err c.from_residual.result _ c.from_residual.ensures.0

pub loop-place-init : goal.loop-place-init
loop-place-init c = ap (numbered 1 c.args.values.now) c.new-arguments.ensures

pub loop-place-preserved : goal.loop-place-preserved
loop-place-preserved c =
    numbered_next c.args.values.now c.loop-place.place (c.loop-place.place + 1) c.index-values-place.result c.loop-place.arguments c.set_argument.new.arguments c.loop-place-test.true c.index-values-place.is
    c.in_ok-set_argument.ensures ∙ c.loop-place.invariant

pub returns : goal.returns
returns c = sym (numbered_all c.args.values.now c.loop-place.place (c.loop-place.place + 1) c.loop-place.arguments c.loop-place-test.false) ∙ c.loop-place.invariant

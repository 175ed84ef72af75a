use Rattle.std.proofs.Common.{ap, inr, refl}
use Rattle.std.proofs.lemmas.Result.{IfOk-from_err}
use Rattle.exec2_parse.specs.Variables.{Vars}
use Rattle.exec2_run.specs.Variables.{with_value}
use Rattle.exec2_run.proofs.OneSet.{among_arguments, among_others, argument_set, no_room, other_set}
use Rattle.exec2_run.proofs.Passed.{leads_no_memory}
use Rattle.exec2_run.proofs.variables.Variables.replace.Goals as goal

pub returns-then-not-has_room-clause-step : goal.returns-then-not-has_room-clause-step
returns-then-not-has_room-clause-step c =
    (refl, inr (no_room c.args.self.now c.args.name c.args.value c.bytes.result.now c.bytes.ensures.bytes c.has_room.result c.has_room.ensures c.if-not-has_room.true))

pub returns-in_err-replace-clause-step : goal.returns-in_err-replace-clause-step
returns-in_err-replace-clause-step c =
    let v = c.args.self.now in
    leads_no_memory (with_value v c.args.name c.args.value) v (record { arguments = c.replace.new.self; others = v.others }) c.from_residual.result
    (ap (λ (t : Vars). record { arguments = t; others = v.others }) c.in_err-replace.ensures.err) c.from_residual.ensures.1

pub returns-in_err-replace-clause-before : goal.returns-in_err-replace-clause-before
returns-in_err-replace-clause-before c = IfOk-from_err c.from_residual.result _ c.from_residual.ensures.0

pub returns-in_err-replace-2-clause-step : goal.returns-in_err-replace-2-clause-step
returns-in_err-replace-2-clause-step c =
    let v = c.args.self.now in
    leads_no_memory (with_value v c.args.name c.args.value) v (record { arguments = v.arguments; others = c.replace-else-is_argument.new.self }) c.from_residual-in_err-replace-2.result
    (ap (λ (t : Vars). record { arguments = v.arguments; others = t }) c.in_err-replace-2.ensures.err) c.from_residual-in_err-replace-2.ensures.1

pub returns-in_err-replace-2-clause-before : goal.returns-in_err-replace-2-clause-before
returns-in_err-replace-2-clause-before c = IfOk-from_err c.from_residual-in_err-replace-2.result _ c.from_residual-in_err-replace-2.ensures.0

pub returns-in_ok-replace-clause-step : goal.returns-in_ok-replace-clause-step
returns-in_ok-replace-clause-step c =
    argument_set c.args.self.now c.args.name c.args.value c.bytes.result.now c.bytes.ensures.bytes c.bytes-2.result.now c.bytes-2.ensures.bytes c.is_argument.result c.is_argument.ensures
    c.has_room.result c.has_room.ensures c.if-not-has_room.false c.replace.new.self c.if-is_argument.true c.in_ok-replace.ensures.ok

pub returns-in_ok-replace-clause-before : goal.returns-in_ok-replace-clause-before
returns-in_ok-replace-clause-before c =
    among_arguments c.args.self.now c.args.name c.args.value c.bytes.result.now c.bytes.ensures.bytes c.bytes-2.result.now c.bytes-2.ensures.bytes c.is_argument.result c.is_argument.ensures
    c.in_ok-replace.field-0 c.if-is_argument.true c.in_ok-replace.ensures.before

pub returns-in_ok-replace-2-clause-step : goal.returns-in_ok-replace-2-clause-step
returns-in_ok-replace-2-clause-step c =
    other_set c.args.self.now c.args.name c.args.value c.bytes.result.now c.bytes.ensures.bytes c.bytes-2.result.now c.bytes-2.ensures.bytes c.is_argument.result c.is_argument.ensures
    c.has_room.result c.has_room.ensures c.if-not-has_room.false c.replace-else-is_argument.new.self c.if-is_argument.false c.in_ok-replace-2.ensures.ok

pub returns-in_ok-replace-2-clause-before : goal.returns-in_ok-replace-2-clause-before
returns-in_ok-replace-2-clause-before c =
    among_others c.args.self.now c.args.name c.args.value c.bytes.result.now c.bytes.ensures.bytes c.bytes-2.result.now c.bytes-2.ensures.bytes c.is_argument.result c.is_argument.ensures
    c.in_ok-replace-2.field-0 c.if-is_argument.false c.in_ok-replace-2.ensures.before

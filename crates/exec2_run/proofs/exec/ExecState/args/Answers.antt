use Rattle.std.proofs.Common.{refl}
use Rattle.exec2_run.specs.Given.{bound}
use Rattle.exec2_run.specs.Readings.{args_given}
use Rattle.exec2_run.proofs.Passed.{does_fails_so, does_no_memory, does_part_fail}
use Rattle.exec2_run.proofs.Statements.{args_cut, args_refused, args_so}
use Rattle.exec2_run.proofs.exec.ExecState.args.Goals as goal

pub returns-in_err-operands : goal.returns-in_err-operands
returns-in_err-operands c =
    let s = c.args.self.now in
    does_no_memory (args_given s c.args.words.now) s s c.from_residual.result refl c.from_residual.ensures.1

pub returns-in_err-whole : goal.returns-in_err-whole
returns-in_err-whole c =
    let s = c.args.self.now in
    let words = c.args.words.now in
    let o = c.in_ok-operands.operands in
    let why = c.in_err-whole.field-0.0 in
    does_fails_so (args_given s words) s s c.from_residual-in_err-whole.result why refl c.from_residual-in_err-whole.ensures.1
    (args_cut s (bound c.seen.result) words o o.words c.seen.ensures c.in_ok-operands.ensures refl why c.in_err-whole.ensures)

pub returns-in_err-set_arguments : goal.returns-in_err-set_arguments
returns-in_err-set_arguments c =
    let s = c.args.self.now in
    let words = c.args.words.now in
    let o = c.in_ok-operands.operands in
    let why = c.in_err-set_arguments.field-0.0 in
    does_part_fail (args_given s words) s c.set_arguments.new.self c.from_residual-in_err-set_arguments.result why _ c.in_err-set_arguments.ensures.0 c.from_residual-in_err-set_arguments.ensures.1
    c.in_err-set_arguments.ensures.1
    (args_refused s (bound c.seen.result) words o c.as_slice.result.now c.seen.ensures c.in_ok-operands.ensures c.as_slice.ensures c.in_ok-whole.field-0 why c.in_ok-whole.ensures)

pub returns : goal.returns
returns c =
    let s = c.args.self.now in
    let words = c.args.words.now in
    args_so s (bound c.seen.result) words c.in_ok-operands.operands c.as_slice.result.now c.seen.ensures c.in_ok-operands.ensures c.as_slice.ensures c.in_ok-whole.field-0 c.set_arguments.new.self
    c.in_ok-whole.ensures c.in_ok-set_arguments.ensures

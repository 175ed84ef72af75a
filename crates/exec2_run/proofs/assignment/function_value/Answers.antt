use Rattle.exec2_run.specs.Assignments.{function_value}
use Rattle.exec2_run.specs.Given.{bound}
use Rattle.exec2_run.proofs.Passed.{no_memory}
use Rattle.exec2_run.proofs.assignment.function_value.Goals as goal

pub returns-in_err-copied : goal.returns-in_err-copied
returns-in_err-copied c = no_memory (function_value (bound c.args.seen.now) c.args.function c.args.words.now) c.from_residual.result c.from_residual.ensures.1

pub returns-in_err-arguments : goal.returns-in_err-arguments
returns-in_err-arguments c =
    no_memory (function_value (bound c.args.seen.now) c.args.function c.args.words.now) c.from_residual-in_err-arguments.result c.from_residual-in_err-arguments.ensures.1

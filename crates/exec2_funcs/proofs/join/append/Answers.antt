use Rattle.std.proofs.Common.{◌+◌, ◌<◌, length}
use Rattle.std.proofs.lemmas.Result.{IfOk-from_err}
use Rattle.exec2_funcs.proofs.Passed.{memory_at_err}
use Rattle.exec2_funcs.proofs.join.append.Goals as goal

pub returns-in_err-extend_from_slice-clause-added : goal.returns-in_err-extend_from_slice-clause-added
returns-in_err-extend_from_slice-clause-added c = IfOk-from_err c.from_residual.result _ c.from_residual.ensures.0

pub returns-in_err-extend_from_slice-clause-short : goal.returns-in_err-extend_from_slice-clause-short
returns-in_err-extend_from_slice-clause-short c = IfOk-from_err c.from_residual.result _ c.from_residual.ensures.0

pub returns-in_err-extend_from_slice-clause-fault : goal.returns-in_err-extend_from_slice-clause-fault
returns-in_err-extend_from_slice-clause-fault c =
    memory_at_err c.from_residual.result (255 < length c.args.text.now.items + length c.args.more.now) c.from_residual.ensures.1

pub returns-clause-added : goal.returns-clause-added
returns-clause-added c = c.in_ok-extend_from_slice.ensures.items

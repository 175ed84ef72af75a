use Rattle.std.proofs.Common.{refl}
use Rattle.std.proofs.lemmas.Result.{IfOk-from_err}
use Rattle.mini_host.proofs.memory.MemHost.add_file.Goals as goal

pub returns-in_err-reserve-clause-given : goal.returns-in_err-reserve-clause-given
returns-in_err-reserve-clause-given c = IfOk-from_err c.from_residual.result _ c.from_residual.ensures.0

pub returns-in_err-of-clause-given : goal.returns-in_err-of-clause-given
returns-in_err-of-clause-given c = IfOk-from_err c.from_residual-in_err-of.result _ c.from_residual-in_err-of.ensures.0

pub returns-in_err-reserve-clause-faults : goal.returns-in_err-reserve-clause-faults
returns-in_err-reserve-clause-faults c = refl

pub returns-in_err-reserve-clause-calls : goal.returns-in_err-reserve-clause-calls
returns-in_err-reserve-clause-calls c = refl

pub returns-in_err-reserve-clause-failing : goal.returns-in_err-reserve-clause-failing
returns-in_err-reserve-clause-failing c = refl

pub returns-in_err-of-clause-faults : goal.returns-in_err-of-clause-faults
returns-in_err-of-clause-faults c = refl

pub returns-in_err-of-clause-calls : goal.returns-in_err-of-clause-calls
returns-in_err-of-clause-calls c = refl

pub returns-in_err-of-clause-failing : goal.returns-in_err-of-clause-failing
returns-in_err-of-clause-failing c = refl

pub returns-clause-faults : goal.returns-clause-faults
returns-clause-faults c = refl

pub returns-clause-calls : goal.returns-clause-calls
returns-clause-calls c = refl

pub returns-clause-failing : goal.returns-clause-failing
returns-clause-failing c = refl

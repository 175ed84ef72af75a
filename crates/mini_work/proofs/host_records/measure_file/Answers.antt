use Rattle.mini_work.proofs.Caused.{file_stops, later_same}
use Rattle.std.proofs.Common.{refl}
use Rattle.mini_work.specs.declared.fault.Fault.TheVariants as fault
use Rattle.mini_work.specs.declared.host_records.FileFault.TheVariants as file
use Rattle.mini_work.proofs.host_records.measure_file.Goals as goal

pub returns-in_err-reader-clause-cause : goal.returns-in_err-reader-clause-cause
returns-in_err-reader-clause-cause g c = λ k. file_stops _ _ (file.Fault fault.Memory) c.from_residual.result c.from_residual.ensures.1 refl (later_same _)

pub returns-in_err-buffer-clause-cause : goal.returns-in_err-buffer-clause-cause
returns-in_err-buffer-clause-cause g c = λ k. file_stops _ _ (file.Fault fault.Memory) c.from_residual-in_err-buffer.result c.from_residual-in_err-buffer.ensures.1 refl (later_same _)

pub returns-clause-cause : goal.returns-clause-cause
returns-clause-cause g c = λ k. c.measure_open.ensures.cause k

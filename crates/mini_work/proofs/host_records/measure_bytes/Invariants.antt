use Rattle.std.proofs.Common.{◌-◌, drop, length}
use Rattle.mini_work.specs.HostRecords.{MeasuresTo}
use Rattle.mini_work.proofs.host_records.measure_bytes.Given as goal

abbrev pub invariant-loop-place : goal.invariant-loop-place
invariant-loop-place l = MeasuresTo l.initial.reader l.reader l.initial.measure l.measure l.bytes (drop l.place l.bytes)

abbrev pub decreases-loop-place : goal.decreases-loop-place
decreases-loop-place l = length l.bytes - l.place

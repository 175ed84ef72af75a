use Rattle.std.proofs.Common.{◌-◌, ◌≤◌, length}
use Rattle.cms_records.proofs.Lengths.{Comes}
use Rattle.cms_records.proofs.var_records.var_check.Given as goal

abbrev pub invariant-loop-done : goal.invariant-loop-done
invariant-loop-done l = record {
  comes : Comes l.bsize l.count l.bytes (l.count - l._done) l.place l.longest;
  within : l.place ≤ length l.bytes;
}

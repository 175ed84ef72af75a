use Rattle.std.proofs.Common.{◌≡◌, ◌++◌}
use Rattle.cms_records.specs.Stored.{records_in}
use Rattle.cms_ext.proofs.file_read.records_of.Given as goal

abbrev pub invariant-loop-record : goal.invariant-loop-record
invariant-loop-record l = record {
  next : (goal.iterator-loop-record).can_next l.record-iterator;
  finite : (goal.iterator-loop-record).is_finite l.record-iterator;
  records : l.records ++ l.record-iterator ≡ records_in l.file;
}

use Rattle.std.proofs.Common.{◌≡◌, ◌++◌}
use Rattle.std.specs.Prelude.{None}
use Rattle.exec2_parse.specs.Procedures.{lines_of, number_of_long_line}
use Rattle.exec2_parse.specs.Statements.{lines_in}
use Rattle.cms_records.specs.Stored.{records_in}
use Rattle.exec2_parse.proofs.procedure.procedure_in.Given as goal

abbrev pub invariant-loop-record : goal.invariant-loop-record
invariant-loop-record l = record {
  next : (goal.iterator-loop-record).can_next l.record-iterator;
  finite : (goal.iterator-loop-record).is_finite l.record-iterator;
  lines : lines_in l.statements.items ++ lines_of l.record-iterator ≡ lines_of (records_in l.file);
  short : number_of_long_line (lines_of l.record-iterator) ≡ None;
}

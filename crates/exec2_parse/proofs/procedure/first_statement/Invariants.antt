use Rattle.std.proofs.Common.{◌≡◌}
use Rattle.exec2_parse.specs.Procedures.{first_statement, lines_of}
use Rattle.cms_records.specs.Stored.{records_in}
use Rattle.exec2_parse.proofs.procedure.first_statement.Given as goal

abbrev pub invariant-loop-record : goal.invariant-loop-record
invariant-loop-record l =
    (goal.iterator-loop-record).can_next l.record-iterator × (goal.iterator-loop-record).is_finite l.record-iterator
    × (first_statement (lines_of l.record-iterator) ≡ first_statement (lines_of (records_in l.file)))

use Rattle.std.proofs.Common.{◌≡◌, ◌+◌, ◌^◌, ◌<◌, length}
use Rattle.std.specs.Prelude.{position, option_map}
use Rattle.exec2_parse.specs.Procedures.{is_long, lines_of, number_of_long_line}
use Rattle.cms_records.specs.Stored.{records_in}
use Rattle.exec2_parse.proofs.procedure.number_of_long_line.Given as goal

abbrev pub invariant-loop-record : goal.invariant-loop-record
invariant-loop-record l =
    (goal.iterator-loop-record).can_next l.record-iterator × (goal.iterator-loop-record).is_finite l.record-iterator
    × (l.before + length l.record-iterator ≡ l.file.count)
    × (l.file.count < 2 ^ 32)
    × (option_map (λ place. place + 1 + l.before) (position is_long (lines_of l.record-iterator)) ≡ number_of_long_line (lines_of (records_in l.file)))

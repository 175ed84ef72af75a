use Rattle.std.proofs.Common.{◌≡◌, drop}
use Rattle.std.specs.List.{position_from}
use Rattle.exec2_parse.specs.Words.{has_label}
use Rattle.exec2_run.specs.Jumps.{label_from}
use Rattle.exec2_run.proofs.jumps.label_from.Given as goal

abbrev pub invariant-loop-place : goal.invariant-loop-place
invariant-loop-place l = position_from (has_label l.label) l.place (drop l.place l.lines) ≡ label_from l.label l.from l.lines

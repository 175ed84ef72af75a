use Rattle.std.proofs.Common.{◌≡◌, drop}
use Rattle.exec2_run.specs.Readings.{in_front, names}
use Rattle.exec2_run.specs.Given.{bound}
use Rattle.exec2_run.proofs.asked_line.names.Given as goal

abbrev pub invariant-loop-word : goal.invariant-loop-word
invariant-loop-word l = in_front l.names (names (bound l.seen) (drop l.word-index l.words)) ≡ names (bound l.seen) l.words

use Rattle.std.proofs.Common.{◌≡◌, drop}
use Rattle.exec2_run.specs.Assignments.{added}
use Rattle.exec2_run.proofs.assignment.added.Given as goal

abbrev pub invariant-loop-word : goal.invariant-loop-word
invariant-loop-word l = added l.total (drop l.word-index l.words) ≡ added l.fn.sum l.words

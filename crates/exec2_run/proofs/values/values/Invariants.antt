use Rattle.std.proofs.Common.{◌≡◌, drop}
use Rattle.exec2_run.specs.Values.{behind, values}
use Rattle.exec2_run.specs.Given.{bound}
use Rattle.exec2_run.proofs.values.values.Given as goal

abbrev pub invariant-loop-word : goal.invariant-loop-word
invariant-loop-word l = behind l.values (values l.keeps_empty (bound l.seen) (drop l.word-index l.words)) ≡ values l.keeps_empty (bound l.seen) l.words

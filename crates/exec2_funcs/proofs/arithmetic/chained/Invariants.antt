use Rattle.std.proofs.Common.{◌≡◌, drop}
use Rattle.exec2_funcs.specs.Calls as spec
use Rattle.exec2_funcs.proofs.arithmetic.chained.Given as goal

abbrev pub invariant-loop-word : goal.invariant-loop-word
invariant-loop-word l =
    spec.chained (spec.step_of l.operation) l.value (drop l.word-index l.words) ≡ spec.chained (spec.step_of l.operation) l.first l.words

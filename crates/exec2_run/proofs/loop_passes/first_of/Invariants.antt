use Rattle.std.proofs.Common.{◌≡◌, length}
use Rattle.exec2_run.specs.Loops.{first_of}
use Rattle.exec2_run.specs.Given.{bound}
use Rattle.exec2_run.proofs.loop_passes.first_of.Given as goal

abbrev pub invariant-loop-rest : goal.invariant-loop-rest
invariant-loop-rest l = first_of (bound l.seen) l.rest ≡ first_of (bound l.seen) l.words

abbrev pub decreases-loop-rest : goal.decreases-loop-rest
decreases-loop-rest l = length l.rest

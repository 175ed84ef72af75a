use Rattle.std.proofs.Common.{◌≡◌, ◌≤◌, length}
use Rattle.exec2_run.specs.Given.{behind_name}
use Rattle.exec2_run.proofs.given.behind_name.Given as goal

abbrev pub invariant-loop-rest : goal.invariant-loop-rest
invariant-loop-rest l = (behind_name l.rest ≡ behind_name l.called) × (length l.rest ≤ length l.called)

abbrev pub decreases-loop-rest : goal.decreases-loop-rest
decreases-loop-rest l = length l.rest

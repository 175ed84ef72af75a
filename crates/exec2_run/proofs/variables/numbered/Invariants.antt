use Rattle.std.proofs.Common.{◌≡◌, ◌+◌, drop}
use Rattle.std.specs.FinMap.{empty}
use Rattle.exec2_run.specs.Variables.{numbered}
use Rattle.exec2_run.proofs.variables.numbered.Given as goal

abbrev pub invariant-loop-place : goal.invariant-loop-place
invariant-loop-place l = numbered (l.place + 1) (drop l.place l.values) l.arguments ≡ numbered 1 l.values empty

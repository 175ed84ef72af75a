use Rattle.std.proofs.Common.{◌≡◌, drop}
use Rattle.exec2_run.specs.Loops.{settled_from}
use Rattle.exec2_run.proofs.exec.ExecState.loops_left.Given as goal

abbrev pub invariant-loop-over : goal.invariant-loop-over
invariant-loop-over l = settled_from l.moment l.self l.self.loops ≡ settled_from l.moment l.self (drop l.over l.self.loops)

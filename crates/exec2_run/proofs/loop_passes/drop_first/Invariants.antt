use Rattle.std.proofs.Common.{◌≡◌, drop}
use Rattle.exec2_run.proofs.loop_passes.drop_first.Given as goal

abbrev pub invariant-loop : goal.invariant-loop
invariant-loop l = drop l.counter l.fn.loops ≡ l.loops

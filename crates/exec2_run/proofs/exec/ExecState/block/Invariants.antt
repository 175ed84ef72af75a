use Rattle.std.proofs.Common.{◌≡◌, drop}
use Rattle.exec2_run.specs.Outputs.{block, block_from, in_front}
use Rattle.exec2_run.proofs.exec.ExecState.block.Given as goal

abbrev pub invariant-loop-place : goal.invariant-loop-place
invariant-loop-place l = in_front l.lines (block_from l.place (drop l.place l.self.lines)) ≡ block l.self

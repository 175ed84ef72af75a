use Rattle.std.proofs.Common.{ℕ}
use Rattle.mini_work.specs.Causes.{AreLater, on_world}
use Rattle.mini_work.specs.Output.{OnlyTypes}
use Rattle.mini_work.proofs.directory.show_block.Given as goal

abbrev pub invariant-loop-place : goal.invariant-loop-place
invariant-loop-place g l = record {
  goes : OnlyTypes (g.W.World.told l.fn.world) (g.W.World.told l.world);
  later : (n : ℕ) → AreLater (on_world g.W.World l.fn.world n) (on_world g.W.World l.world n);
}

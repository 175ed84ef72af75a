use Rattle.std.proofs.Common.{ℕ}
use Rattle.mini_work.specs.Causes.{AreLater, on_world}
use Rattle.mini_work.specs.Output.{OnlyTypes}
use Rattle.mini_work.proofs.dump.show_entries.Given as goal

abbrev pub invariant-loop-place : goal.invariant-loop-place
invariant-loop-place g l = record {
  goes : OnlyTypes (g.W.World.told l.initial.world) (g.W.World.told l.world);
  later : (n : ℕ) → AreLater (on_world g.W.World l.initial.world n) (on_world g.W.World l.world n);
}

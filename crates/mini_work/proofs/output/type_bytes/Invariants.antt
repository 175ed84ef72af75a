use Rattle.std.proofs.Common.{length, ℕ}
use Rattle.cms_line.specs.Typed.{TypedTo}
use Rattle.mini_work.specs.Causes.{AreLater, on_world}
use Rattle.mini_work.proofs.output.type_bytes.Given as goal

abbrev pub invariant-loop-rest : goal.invariant-loop-rest
invariant-loop-rest g l = record {
  typed : TypedTo (g.W.World.told l.initial.world) (g.W.World.told l.world) l.bytes l.rest;
  later : (n : ℕ) → AreLater (on_world g.W.World l.initial.world n) (on_world g.W.World l.world n);
}

abbrev pub decreases-loop-rest : goal.decreases-loop-rest
decreases-loop-rest g l = length l.rest

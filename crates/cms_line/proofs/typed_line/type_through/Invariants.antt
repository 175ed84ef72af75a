use Rattle.std.proofs.Common.{◌≡◌, ◌≤◌, length}
use Rattle.cms_line.specs.Typed.{TypedTo}
use Rattle.cms_model.specs.Acts.{typed_line}
use Rattle.cms_line.proofs.typed_line.type_through.Given as goal

abbrev pub invariant-loop-rest : goal.invariant-loop-rest
invariant-loop-rest g l = record {
  typed : TypedTo (g.W.World.told l.initial.world) (g.W.World.told l.world) (typed_line l.bytes) (typed_line l.rest);
  later : g.W.World.edges l.initial.world ≤ g.W.World.edges l.world;
  faults : g.W.World.faults l.world ≡ g.W.World.faults l.initial.world;
}

abbrev pub decreases-loop-rest : goal.decreases-loop-rest
decreases-loop-rest g l = length l.rest

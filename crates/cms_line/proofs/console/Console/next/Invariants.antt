use Rattle.std.proofs.Common.{◌≡◌, ◌≤◌}
use Rattle.cms_line.specs.Consoles.{Stayed}
use Rattle.cms_line.proofs.console.Console.next.Given as goal

abbrev pub invariant-loop : goal.invariant-loop
invariant-loop g l = record {
  stayed : Stayed (g.W.World.told l.initial.world) (g.W.World.told l.world) l.initial.self l.self;
  later : g.W.World.edges l.initial.world ≤ g.W.World.edges l.world;
  faults : g.W.World.faults l.world ≡ g.W.World.faults l.initial.world;
}

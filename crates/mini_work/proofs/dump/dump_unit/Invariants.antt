use Rattle.mini_work.specs.Causes.{HasEnd, counts}
use Rattle.std.proofs.Common.{Ok}
use Rattle.mini_work.specs.Output.{OnlyTypes}
use Rattle.mini_work.proofs.dump.dump_unit.Given as goal

abbrev pub invariant-loop-block : goal.invariant-loop-block
invariant-loop-block g l = record {
  goes : OnlyTypes (g.W.World.told l.initial.world) (g.W.World.told l.world);
  cause : HasEnd (counts g.W.World g.H.Host l.initial.world l.initial.host) (counts g.W.World g.H.Host l.world l.host) (Ok l.status);
}

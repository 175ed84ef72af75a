use Rattle.cms_model.specs.Minidisks.{Minidisk}
use Rattle.mini_work.specs.Causes.{HasEnd, counts}
use Rattle.std.proofs.Common.{Ok, take}
use Rattle.mini_work.specs.CommandActs.{Continues, Goes, MayChange}
use Rattle.mini_work.specs.Gets.{IsGotTo, OnHost}
use Rattle.mini_work.specs.Stands.{Stands}
use Rattle.mini_work.proofs.get.get_named.Given as goal

abbrev pub invariant-loop-name : goal.invariant-loop-name
invariant-loop-name g l = record {
  may : MayChange (g.W.World.told l.world) l.disk;
  goes : Continues (OnHost (g.H.Host.told l.initial.host) (g.H.Host.told l.host) (Goes (IsGotTo l.get l.folder) (take l.name-index l.names)))
      (g.W.World.told l.initial.world) l.disk (g.W.World.told l.world) l.disk (Ok l.status);
  stands : (m : Minidisk) → Stands (g.W.World.told l.initial.world) l.disk m → Stands (g.W.World.told l.world) l.disk m;
  cause : (m : Minidisk) → Stands (g.W.World.told l.initial.world) l.disk m → HasEnd (counts g.W.World g.H.Host l.initial.world l.initial.host) (counts g.W.World g.H.Host l.world l.host) (Ok l.status);
}

use Rattle.mini_work.specs.Causes.{HasEnd, counts}
use Rattle.std.proofs.Common.{take, Ok, true, ◌≡◌}
use Rattle.cms_model.specs.Changes.{Drop}
use Rattle.mini_work.specs.Changes.{IsChange}
use Rattle.mini_work.specs.CommandActs.{Continues, Goes, MayChange}
use Rattle.mini_work.specs.Output.{name_line}
use Rattle.mini_work.proofs.change.erase_all.Given as goal

abbrev pub invariant-loop-name : goal.invariant-loop-name
invariant-loop-name g l = record {
  may : MayChange (g.W.World.told l.world) l.disk;
  goes : Continues (Goes (λ name. IsChange (Drop name) l.stamp l.says (name_line name)) (take l.name-index l.names))
      (g.W.World.told l.initial.world) l.initial.disk (g.W.World.told l.world) l.disk (Ok l.status);
  writable : l.disk.writable ≡ l.initial.disk.writable;
  cause : l.initial.disk.writable ≡ true → HasEnd (counts g.W.World g.H.Host l.initial.world l.initial.host) (counts g.W.World g.H.Host l.world l.host) (Ok l.status);
}

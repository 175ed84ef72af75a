use Rattle.mini_work.specs.Causes.{HasEnd, counts}
use Rattle.std.proofs.Common.{◌≡◌, take, Ok}
use Rattle.cms_model.specs.Minidisks.{Minidisk}
use Rattle.mini_work.specs.Gets.{WritesAll}
use Rattle.mini_work.specs.HandedFiles.{IsBegun}
use Rattle.mini_work.specs.CommandActs.{MayChange}
use Rattle.mini_work.specs.HostTold.{SameFiles}
use Rattle.mini_work.specs.Stands.{Stands}
use Rattle.mini_work.proofs.get.write_all.Given as goal

abbrev pub invariant-loop-name : goal.invariant-loop-name
invariant-loop-name g l = record {
  may : MayChange (g.W.World.told l.world) l.disk;
  begun : IsBegun (g.H.Host.told l.host);
  told : (m : Minidisk) → Stands (g.W.World.told l.initial.world) l.disk m → g.W.World.told l.world ≡ g.W.World.told l.initial.world;
  writes : (m : Minidisk) → Stands (g.W.World.told l.initial.world) l.disk m
      → WritesAll l.form m (take l.name-index l.names) (g.H.Host.told l.initial.host) (g.H.Host.told l.host) l.initial.written l.written l.status;
  files : SameFiles (g.H.Host.told l.initial.host) (g.H.Host.told l.host);
  cause : (m : Minidisk) → Stands (g.W.World.told l.initial.world) l.disk m → HasEnd (counts g.W.World g.H.Host l.initial.world l.initial.host) (counts g.W.World g.H.Host l.world l.host) (Ok l.status);
}

use Rattle.mini_work.specs.Causes.{HasEnd, counts}
use Rattle.std.proofs.Common.{◌≡◌, List, take, Some, Ok, true}
use Rattle.mini_host.specs.declared.content.HostFile.{HostFile}
use Rattle.mini_work.specs.CommandActs.{Continues, Goes, MayChange}
use Rattle.mini_work.specs.HostTold.{SameFiles, files_in}
use Rattle.mini_work.specs.Puts.{IsPut}
use Rattle.mini_work.proofs.put.put_all.Given as goal

abbrev pub invariant-loop-word : goal.invariant-loop-word
invariant-loop-word g l = record {
  may : MayChange (g.W.World.told l.world) l.disk;
  files : SameFiles (g.H.Host.told l.initial.host) (g.H.Host.told l.host);
  goes : (files : List HostFile) → files_in (g.H.Host.told l.initial.host) ≡ Some files
      → Continues (Goes (IsPut files l.put l.stamp) (take l.word-index l.words)) (g.W.World.told l.initial.world) l.initial.disk
      (g.W.World.told l.world) l.disk (Ok l.status);
  writable : l.disk.writable ≡ l.initial.disk.writable;
  cause : l.initial.disk.writable ≡ true → HasEnd (counts g.W.World g.H.Host l.initial.world l.initial.host) (counts g.W.World g.H.Host l.world l.host) (Ok l.status);
}

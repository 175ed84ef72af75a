use Rattle.mini_work.specs.Causes.{AreLater, counts}
use Rattle.std.proofs.Common.{◌≡◌}
use Rattle.std.specs.Option.{ForSome}
use Rattle.cms_journal.specs.Journal.{HasBlocks}
use Rattle.cms_journal.specs.Told.{Grown}
use Rattle.cms_disk.specs.Cursors.{SameFile}
use Rattle.mini_work.specs.HandedFiles.{IsBegun}
use Rattle.mini_work.specs.HostTold.{SameFiles}
use Rattle.mini_work.specs.declared.handed_file.Way.TheVariants as ways
use Rattle.mini_work.proofs.Handed.{PutsTo}
use Rattle.mini_work.proofs.handed_file.hand_records.Given as goal

abbrev pub invariant-records : goal.invariant-records
invariant-records g l = record {
  to : PutsTo l.way l.form l.format (g.W.World.told l.initial.world) (g.W.World.told l.world) (g.H.Host.told l.initial.host) (g.H.Host.told l.host)
      l.initial.cursor l.cursor;
  file : SameFile l.initial.cursor l.cursor;
  blocks : ForSome (g.W.World.told l.world) (λ j. HasBlocks j.units l.cursor.unit l.cursor.total l.cursor.bsize);
  begun : l.way ≡ ways.File → IsBegun (g.H.Host.told l.host);
  grown : Grown (g.W.World.told l.initial.world) (g.W.World.told l.world);
  files : SameFiles (g.H.Host.told l.initial.host) (g.H.Host.told l.host);
  later : AreLater (counts g.W.World g.H.Host l.initial.world l.initial.host) (counts g.W.World g.H.Host l.world l.host);
}

abbrev pub decreases-records : goal.decreases-records
decreases-records g l = l.cursor.left

use Rattle.std.proofs.Common.{[], ◌∷◌, sym, ◌∙◌}
use Rattle.cms_journal.specs.declared.event.Event.TheVariants.{Synced}
use Rattle.cms_disk.specs.Disks.{disk_on}
use Rattle.cms_disk.proofs.QuietUnits.{synced_told}
use Rattle.cms_disk.proofs.minidisk.settle.Goals as goal

pub returns-in-Ok-clause-quiet : goal.returns-in-Ok-clause-quiet
returns-in-Ok-clause-quiet g c = λ j told quiet.
    synced_told (disk_on c.args.unit.now) c.args.unit.now.unit.number (g.W.World.told c.args.world.now) j (sym c.in-Ok.ensures.synced ∙ told)

pub returns-in-Ok-clause-changes : goal.returns-in-Ok-clause-changes
returns-in-Ok-clause-changes g c = record {
  grown = record { events = Synced c.args.unit.now.unit.number ∷ []; told = c.in-Ok.ensures.synced };
  faults = c.in-Ok.ensures.cause.later;
  edges = c.in-Ok.ensures.edges;
  cause = tt;
}

pub returns-then-not-doubt-clause-failed : goal.returns-then-not-doubt-clause-failed
returns-then-not-doubt-clause-failed g c = tt

pub returns-in-Ok-clause-failed : goal.returns-in-Ok-clause-failed
returns-in-Ok-clause-failed g c = tt

pub returns-in-Err-clause-quiet : goal.returns-in-Err-clause-quiet
returns-in-Err-clause-quiet g c = tt

pub returns-in-Err-clause-synced : goal.returns-in-Err-clause-synced
returns-in-Err-clause-synced g c = tt

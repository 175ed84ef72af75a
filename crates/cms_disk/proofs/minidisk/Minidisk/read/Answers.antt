use Rattle.std.proofs.Common.{refl}
use Rattle.cms_disk.specs.Disks.{disk_on}
use Rattle.cms_disk.proofs.QuietUnits.{opened_leaves, refused_leaves}
use Rattle.cms_disk.specs.contracts.minidisk.Minidisk.{the_view}
use Rattle.cms_disk.proofs.minidisk.Minidisk.read.Goals as goal

pub returns-in-Ok-clause-left : goal.returns-in-Ok-clause-left
returns-in-Ok-clause-left g c = λ j told whole quiet.
    opened_leaves c.args.unit.now j (the_view (record { unit = c.args.unit.now; held = c.in-Ok.held }))
    (record { vdev = refl; writable = refl; number = c.in-Ok.ensures.unit; disk = c.in-Ok.ensures.disk }) (c.in-Ok.ensures.answers j told) whole quiet

pub returns-in-Err-clause-left : goal.returns-in-Err-clause-left
returns-in-Err-clause-left g c = λ j told whole quiet.
    refused_leaves (disk_on c.args.unit.now) j c.args.unit.now.unit.number c.in-Err.fault (c.in-Err.ensures.answers j told) quiet

use Rattle.cms_disk.proofs.FilesTold.{told_sound}
use Rattle.cms_disk.proofs.minidisk.Minidisk.info.Goals as goal

pub returns-clause-sound : goal.returns-clause-sound
returns-clause-sound c =
    let v = c.self.inside.held.volume in told_sound v.disk.bsize v.label.blocks v.files c.args.nth c.info.result c.info.ensures.kept.each c.info.ensures.info

use Rattle.cms_disk.proofs.FilesTold.{told_sound}
use Rattle.cms_disk.proofs.minidisk.Minidisk.mode_number.Goals as goal

pub returns-clause-fits : goal.returns-clause-fits
returns-clause-fits c =
    let v = c.self.inside.held.volume in (told_sound v.disk.bsize v.label.blocks v.files c.args.nth c.info.result c.info.ensures.kept.each c.info.ensures.info).number

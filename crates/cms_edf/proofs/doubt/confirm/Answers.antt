use Rattle.cms_edf.proofs.CutOff.{confirmed}
use Rattle.cms_edf.proofs.doubt.confirm.Goals as goal

pub returns-in-Ok-clause-updates : goal.returns-in-Ok-clause-updates
returns-in-Ok-clause-updates g c =
    let told = g.W.World.told in
    let last = c.write_label_block.ensures in
    confirmed (told c.args.world.now) (told c.sync.new.self) (told c.write_label_block.new.world) c.args.unit c.args.label.now c.write_label_block.result c.in-Ok.ensures.synced last.done last.either
    last.cut_off

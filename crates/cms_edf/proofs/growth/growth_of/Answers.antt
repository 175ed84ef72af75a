use Rattle.std.proofs.Common.{rules}
use Rattle.cms_edf.proofs.GrownNumbers.{growth_is}
use Rattle.cms_edf.proofs.growth.growth_of.Goals as goal

pub returns : goal.returns
returns c =
    growth_is c.args.bsize c.requires.kept.0 c.args.asked.now c.args.file.now _ c.bytes-bytes.ensures.size c.requires.kept.1 c.requires.grows c.requires.few
    (search rules) (search rules) (search rules) (search rules) (search rules)

use Rattle.cms_files.specs.Identifiers.{exec_kind}
use Rattle.cms_files.proofs.Parts.{exec_is_part, is_read, part_is, part_read}
use Rattle.cms_files.proofs.identifier.exec_kind.Goals as goal

pub unwrap-requires : goal.unwrap-requires
unwrap-requires c = is_read c.read.result exec_kind (part_read _ exec_kind c.read.result c.read.ensures c.coded.ensures exec_is_part)

pub returns : goal.returns
returns c = part_is c.unwrap.result exec_kind c.read.result c.unwrap.ensures (part_read _ exec_kind c.read.result c.read.ensures c.coded.ensures exec_is_part)

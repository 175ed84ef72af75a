use Rattle.cms_operands.proofs.Patterns.{is_all, is_read, read_all}
use Rattle.cms_operands.proofs.optional.all_names.Goals as goal

pub unwrap-requires : goal.unwrap-requires
unwrap-requires c = is_read c.read.result (read_all _ c.read.result c.read.ensures c.coded.ensures)

pub returns : goal.returns
returns c = is_all c.unwrap.result c.read.result c.unwrap.ensures (read_all _ c.read.result c.read.ensures c.coded.ensures)

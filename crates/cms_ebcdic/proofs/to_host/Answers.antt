use Rattle.std.proofs.Common.{arith}
use Rattle.cms_ebcdic.proofs.Tables.{typed_at}
use Rattle.cms_ebcdic.proofs.to_host.Goals as goal

pub returns : goal.returns
returns c = typed_at c.from.result c.args.byte c.from.ensures (omega arith)

use Rattle.std.proofs.Common.{arith}
use Rattle.mini_forms.proofs.Tables.{codes_at}
use Rattle.mini_forms.proofs.page.code_of.Goals as goal

pub returns : goal.returns
returns c = codes_at c.from.result c.args.character c.from.ensures (omega arith)

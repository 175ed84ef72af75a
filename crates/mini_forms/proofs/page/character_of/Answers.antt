use Rattle.std.proofs.Common.{arith}
use Rattle.mini_forms.proofs.Tables.{characters_at}
use Rattle.mini_forms.proofs.page.character_of.Goals as goal

pub returns : goal.returns
returns c = characters_at c.from.result c.args.code c.from.ensures (omega arith)

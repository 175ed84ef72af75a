use Rattle.std.proofs.Common.{◌∙◌}
use Rattle.exec2_parse.proofs.Finite.{counts}
use Rattle.exec2_parse.proofs.vars.Vars.len.Goals as goal

pub returns : goal.returns
returns c = c.len.ensures.len ∙ counts c.args.self.now c.self.inside.values.entries c.self.view_is c.len.ensures.ordered

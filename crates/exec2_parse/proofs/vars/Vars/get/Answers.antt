use Rattle.std.proofs.Common.{◌∙◌}
use Rattle.exec2_parse.proofs.Finite.{answers}
use Rattle.exec2_parse.proofs.vars.Vars.get.Goals as goal

pub returns : goal.returns
returns c = c.get.ensures.value ∙ answers c.args.self.now c.self.inside.values.entries c.args.name.now c.self.view_is

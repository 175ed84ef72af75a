use Rattle.exec2_parse.proofs.Finite.{unsets}
use Rattle.exec2_parse.proofs.vars.Vars.unset.Goals as goal

pub returns : goal.returns
returns c = unsets c.args.self.now c.self.inside.values.entries c.remove.new.self.entries c.args.name.now c.self.view_is c.remove.ensures.updates.1 c.remove.ensures.updates.3

use Rattle.std.proofs.Common.{◌∙◌}
use Rattle.cms_search.proofs.Shown.{finds_shown}
use Rattle.cms_search.proofs.table.AccessTable.find_read.Goals as goal

pub returns-clause-machine : goal.returns-clause-machine
returns-clause-machine c = λ s shows. c.find_first.ensures ∙ finds_shown c.args.self.now s c.args.mode.now c.args.name.now shows

use Rattle.cms_search.specs.contracts.table.AccessTable.{the_view}
use Rattle.cms_search.proofs.Tables.{table_marked}
use Rattle.cms_search.proofs.table.AccessTable.end_doubt.Goals as goal

pub invariant_of-self : goal.invariant_of-self
invariant_of-self c = table_marked (the_view c.self.inside) c.args.place c.self.invariant

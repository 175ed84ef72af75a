use Rattle.cms_search.specs.contracts.table.AccessTable.{the_view}
use Rattle.cms_search.proofs.Unread.{table_unread}
use Rattle.cms_search.proofs.table.AccessTable.drop_readings.Goals as goal

pub invariant_of-self : goal.invariant_of-self
invariant_of-self c = rw c.drop_all.ensures (table_unread (the_view c.self.inside) c.self.invariant)

use Rattle.cms_search.specs.contracts.table.AccessTable.{the_view}
use Rattle.cms_search.proofs.Tables.{table_vacated}
use Rattle.cms_search.proofs.table.AccessTable.vacate.Goals as goal

pub invariant_of-self : goal.invariant_of-self
invariant_of-self c = rw (c.vacate.ensures, c.clear.ensures) (table_vacated (the_view c.self.inside) c.args.place c.args.letter c.args.doubt c.self.invariant)

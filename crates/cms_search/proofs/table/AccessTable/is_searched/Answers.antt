use Rattle.std.proofs.Common.{sym}
use Rattle.std.specs.Prelude.{None}
use Rattle.cms_search.proofs.Shown.{searched_none, searched_some}
use Rattle.cms_search.proofs.table.AccessTable.is_searched.Goals as goal

pub returns-in-None-default : goal.returns-in-None-default
returns-in-None-default c = searched_none c.args.self.now c.args.letter c.args.base (sym c.in-None-default.ensures.seat)

pub returns-in-Some-None : goal.returns-in-Some-None
returns-in-Some-None c = let none = c.in-Some-None.is-1 in rw none (searched_some c.args.self.now c.args.letter c.in-Some-None.field-0-0.now None (sym c.in-Some-None.ensures.seat))

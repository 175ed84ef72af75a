use Rattle.std.proofs.Common.{sym}
use Rattle.cms_search.specs.Tables.{shelves_of}
use Rattle.cms_search.proofs.Searches.{order_absent, order_all}
use Rattle.cms_search.proofs.Shown.{shelf_none}
use Rattle.cms_search.proofs.table.AccessTable.order.Goals as goal

pub returns-in-None : goal.returns-in-None
returns-in-None c = let done = c.with_searched.ensures in let none = c.new.ensures in rw (done, none) (order_all (shelves_of c.args.self.now) c.args.mode.now c.in-None.ensures)

pub returns-in-None-seated : goal.returns-in-None-seated
returns-in-None-seated c =
    order_absent (shelves_of c.args.self.now) c.args.mode.now c.in-Some.letter c.in-Some.ensures (shelf_none c.args.self.now c.in-Some.letter (sym c.in-None-seated.ensures.seat))

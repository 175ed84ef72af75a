use Rattle.std.proofs.Common.{sym, append-nil}
use Rattle.cms_search.proofs.Shown.{shelf_at, shelf_none}
use Rattle.cms_search.proofs.table.AccessTable.collect.Goals as goal

pub returns-in-None : goal.returns-in-None
returns-in-None c =
    let e = shelf_none c.args.self.now c.args.letter (sym c.in-None.ensures.seat) in
    rw e (sym (append-nil c.args.found.now))

pub returns-in-Some : goal.returns-in-Some
returns-in-Some c =
    let e = shelf_at c.args.self.now c.args.letter c.in-Some.seat.now (sym c.in-Some.ensures.seat) in
    rw e c.collect_from.ensures

use Rattle.std.proofs.Common.{◌∙◌, ap, refl, sym}
use Rattle.std.specs.Prelude.{Some}
use Rattle.cms_search.specs.Searches.{item_at}
use Rattle.cms_search.specs.Tables.{AccessTable}
use Rattle.cms_search.specs.contracts.seated.Seated as seats
use Rattle.cms_search.specs.contracts.table.AccessTable.{the_view}
use Rattle.cms_search.proofs.Seats.{reading_set, seat_at, seat_lost, seat_within, table_reads}
use Rattle.cms_search.proofs.table.AccessTable.keep_reading.Goals as goal

pub unreachable-requires : goal.unreachable-requires
unreachable-requires c =
    seat_lost (the_view c.self.inside) _ c.args.letter _ c.self.view_is c.requires.accessed c.index_mut.ensures.value c.in-None.is

pub invariant_of-self : goal.invariant_of-self
invariant_of-self c =
    let kept = c.replace.ensures.after in
    let t = the_view c.self.inside in
    let s = seats.the_view c.seat.inside in
    let at = seat_at t _ c.args.letter _ c.self.view_is c.requires.accessed c.index_mut.ensures.value s _ c.in-Some.is c.seat.view_is in
    rw kept (table_reads t _ c.args.letter _ c.self.view_is c.requires.accessed c.index_mut.ensures.value
    s _ (Some c.args.reading) c.self.invariant c.in-Some.is c.seat.view_is
    (c.requires.sound s (ap (λ (x : AccessTable). item_at x.seats c.args.letter) (sym c.self.view_is) ∙ at)))

pub returns : goal.returns
returns c =
    let kept = c.replace.ensures.after in
    rw kept (reading_set (the_view c.self.inside) _ c.args.letter _ c.self.view_is c.requires.accessed c.index_mut.ensures.value
    _ (seats.the_view c.seat.inside) _ (Some c.args.reading) c.in-Some.is c.seat.view_is refl)

pub index_mut-requires : goal.index_mut-requires
index_mut-requires c = seat_within (the_view c.self.inside) _ c.args.letter _ c.self.view_is c.requires.accessed c.self.inside.seats.ok.0

use Rattle.std.proofs.Common.{refl, ◌∙◌, sym, ap}
use Rattle.cms_world.specs.Seen.{seen}
use Rattle.cms_disk.specs.Disks.{Accessed}
use Rattle.cms_search.specs.FileWrites.{UpdatesTo, change_with}
use Rattle.cms_search.specs.Searches.{item_at}
use Rattle.cms_search.specs.Tables.{AccessTable, Seated}
use Rattle.cms_search.specs.contracts.seated.Seated as seats
use Rattle.cms_search.specs.contracts.table.AccessTable.{the_view}
use Rattle.cms_search.proofs.Seats.{seat_at, seat_changed, seat_lost, seat_within, table_kept}
use Rattle.cms_search.proofs.table.AccessTable.update.Goals as goal

pub unreachable-requires : goal.unreachable-requires
unreachable-requires g c =
    seat_lost (the_view c.self.inside) _ c.args.letter _ c.self.view_is c.requires.accessed c.index_mut.ensures.value c.in-None.is

pub invariant_of-self : goal.invariant_of-self
invariant_of-self g c =
    let none = c.take.ensures.after in
    rw none (table_kept (the_view c.self.inside) _ c.args.letter _ c.self.view_is c.requires.accessed c.index_mut.ensures.value
    (seats.the_view c.seat.inside) _ c.update_minidisk.new.disk c.self.invariant c.in-Some.is c.seat.view_is)

pub returns : goal.returns
returns g c = λ records stands.
    let none = c.take.ensures.after in
    let t = the_view c.self.inside in
    rw none (seat_changed t _ c.args.letter _ c.self.view_is c.requires.accessed c.index_mut.ensures.value
    (λ (s : Seated) (e : Accessed). UpdatesTo (seen g.W.World c.args.world.now) (seen g.W.World c.update_minidisk.new.world)
    s.disk e (change_with c.args.name.now c.args.update records) c.args.stamp.now c.update_minidisk.result)
    _ (seats.the_view c.seat.inside) _ c.update_minidisk.new.disk c.in-Some.is c.seat.view_is refl
    (c.update_minidisk.ensures records stands))

pub update_minidisk-requires-clause-may : goal.update_minidisk-requires-clause-may
update_minidisk-requires-clause-may g c =
    let t = the_view c.self.inside in
    let s = seats.the_view c.seat.inside in
    let at = seat_at t _ c.args.letter _ c.self.view_is c.requires.accessed c.index_mut.ensures.value s _ c.in-Some.is c.seat.view_is in
    c.requires.may s (ap (λ (x : AccessTable). item_at x.seats c.args.letter) (sym c.self.view_is) ∙ at)

pub index_mut-requires : goal.index_mut-requires
index_mut-requires g c = seat_within (the_view c.self.inside) _ c.args.letter _ c.self.view_is c.requires.accessed c.self.inside.seats.ok.0

use Rattle.std.proofs.Common.{refl, ◌∙◌, sym, ap}
use Rattle.cms_disk.specs.Disks.{Accessed}
use Rattle.cms_search.specs.Drafts.{DraftsTo}
use Rattle.cms_search.specs.Searches.{item_at}
use Rattle.cms_search.specs.Tables.{AccessTable, Seated}
use Rattle.cms_search.specs.contracts.seated.Seated as seats
use Rattle.cms_search.specs.contracts.table.AccessTable.{the_view}
use Rattle.cms_search.proofs.Drafted.{planned_on}
use Rattle.cms_search.proofs.Seats.{seat_at, seat_changed, seat_lost, seat_within, table_kept}
use Rattle.cms_search.proofs.table.AccessTable.draft.Goals as goal

pub unreachable-requires : goal.unreachable-requires
unreachable-requires c =
    seat_lost (the_view c.self.inside) _ c.args.letter _ c.self.view_is c.requires.accessed c.index_mut.ensures.value c.in-None.is

pub invariant_of-self : goal.invariant_of-self
invariant_of-self c =
    let none = c.take.ensures.after in
    rw none (table_kept (the_view c.self.inside) _ c.args.letter _ c.self.view_is c.requires.accessed c.index_mut.ensures.value
    (seats.the_view c.seat.inside) _ c.draft_at.new.self c.self.invariant c.in-Some.is c.seat.view_is)

pub draft_at-requires-clause-there : goal.draft_at-requires-clause-there
draft_at-requires-clause-there c =
    let t = the_view c.self.inside in
    let s = seats.the_view c.seat.inside in
    let at = seat_at t _ c.args.letter _ c.self.view_is c.requires.accessed c.index_mut.ensures.value s _ c.in-Some.is c.seat.view_is in
    let there = c.requires.there s (ap (λ (x : AccessTable). item_at x.seats c.args.letter) (sym c.self.view_is) ∙ at) in
    there

pub returns : goal.returns
returns c =
    let none = c.take.ensures.after in
    let t = the_view c.self.inside in
    rw none (seat_changed t _ c.args.letter _ c.self.view_is c.requires.accessed c.index_mut.ensures.value
    (λ (s : Seated) (e : Accessed). DraftsTo s.disk e c.args.name.now c.args.shape.now c.args.stamp.now c.draft_at.result)
    _ (seats.the_view c.seat.inside) _ c.draft_at.new.self c.in-Some.is c.seat.view_is refl
    (record {
      planned = planned_on (seats.the_view c.seat.inside).disk c.draft_at.new.self c.draft_at.result c.draft_at.ensures.some c.draft_at.ensures.writable c.draft_at.ensures.spare;
      begins = c.draft_at.ensures.begins;
      answers = c.draft_at.ensures.answers;
      fault = c.draft_at.ensures.fault;
      kept = c.draft_at.ensures.kept;
    }))

pub index_mut-requires : goal.index_mut-requires
index_mut-requires c = seat_within (the_view c.self.inside) _ c.args.letter _ c.self.view_is c.requires.accessed c.self.inside.seats.ok.0

use Rattle.std.proofs.Common.{refl, ◌∙◌, sym, ap}
use Rattle.cms_world.specs.Seen.{seen}
use Rattle.cms_disk.specs.Disks.{Accessed}
use Rattle.cms_search.specs.Drafts.{DraftsMoreTo}
use Rattle.cms_search.specs.Searches.{item_at}
use Rattle.cms_search.specs.Tables.{AccessTable, Seated}
use Rattle.cms_search.specs.contracts.seated.Seated as seats
use Rattle.cms_search.specs.contracts.table.AccessTable.{the_view}
use Rattle.cms_search.proofs.Drafted.{planned_on}
use Rattle.cms_search.proofs.Seats.{seat_at, seat_changed, seat_lost, seat_within, table_kept}
use Rattle.cms_search.proofs.table.AccessTable.draft_more.Goals as goal

pub unreachable-requires : goal.unreachable-requires
unreachable-requires g c =
    seat_lost (the_view c.self.inside) _ c.args.letter _ c.self.view_is c.requires.accessed c.index_mut.ensures.value c.in-None.is

pub invariant_of-self : goal.invariant_of-self
invariant_of-self g c =
    let none = c.take.ensures.after in
    rw none (table_kept (the_view c.self.inside) _ c.args.letter _ c.self.view_is c.requires.accessed c.index_mut.ensures.value
    (seats.the_view c.seat.inside) _ c.draft_more_at.new.self c.self.invariant c.in-Some.is c.seat.view_is)

pub returns : goal.returns
returns g c =
    let none = c.take.ensures.after in
    let t = the_view c.self.inside in
    let more = c.draft_more_at in
    let made = more.ensures in
    rw none (seat_changed t _ c.args.letter _ c.self.view_is c.requires.accessed c.index_mut.ensures.value
    (λ (s : Seated) (e : Accessed). DraftsMoreTo (seen g.W.World c.args.world.now) (seen g.W.World more.new.world) s.disk e c.args.name.now c.args.shape.now c.args.stamp.now more.result)
    _ (seats.the_view c.seat.inside) _ more.new.self c.in-Some.is c.seat.view_is refl
    (record {
      planned = planned_on (seats.the_view c.seat.inside).disk more.new.self more.result made.some made.writable made.spare;
      begins = made.begins;
      answers = made.answers;
      fault = made.fault;
      kept = made.kept;
      reads = made.reads;
    }))

pub draft_more_at-requires-clause-there : goal.draft_more_at-requires-clause-there
draft_more_at-requires-clause-there g c =
    let t = the_view c.self.inside in
    let s = seats.the_view c.seat.inside in
    let at = seat_at t _ c.args.letter _ c.self.view_is c.requires.accessed c.index_mut.ensures.value s _ c.in-Some.is c.seat.view_is in
    (c.requires.may s (ap (λ (x : AccessTable). item_at x.seats c.args.letter) (sym c.self.view_is) ∙ at)).there

pub draft_more_at-requires-clause-extends : goal.draft_more_at-requires-clause-extends
draft_more_at-requires-clause-extends g c =
    let t = the_view c.self.inside in
    let s = seats.the_view c.seat.inside in
    let at = seat_at t _ c.args.letter _ c.self.view_is c.requires.accessed c.index_mut.ensures.value s _ c.in-Some.is c.seat.view_is in
    (c.requires.may s (ap (λ (x : AccessTable). item_at x.seats c.args.letter) (sym c.self.view_is) ∙ at)).extends

pub draft_more_at-requires-clause-blocks : goal.draft_more_at-requires-clause-blocks
draft_more_at-requires-clause-blocks g c =
    let t = the_view c.self.inside in
    let s = seats.the_view c.seat.inside in
    let at = seat_at t _ c.args.letter _ c.self.view_is c.requires.accessed c.index_mut.ensures.value s _ c.in-Some.is c.seat.view_is in
    (c.requires.may s (ap (λ (x : AccessTable). item_at x.seats c.args.letter) (sym c.self.view_is) ∙ at)).blocks

pub index_mut-requires : goal.index_mut-requires
index_mut-requires g c = seat_within (the_view c.self.inside) _ c.args.letter _ c.self.view_is c.requires.accessed c.self.inside.seats.ok.0

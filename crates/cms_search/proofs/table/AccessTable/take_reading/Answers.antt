use Rattle.std.proofs.Common.{◌≡◌, ◌∙◌, ap, refl, sym, subst}
use Rattle.std.specs.Prelude.{Option, Some, IfSome}
use Rattle.std.specs.Option.{ForSome}
use Rattle.cms_disk.specs.Cursors.{Cursor}
use Rattle.cms_search.specs.Searches.{item_at}
use Rattle.cms_search.specs.Tables.{IsReadingOf, Stood, reading_on, with_reading}
use Rattle.cms_search.specs.contracts.seated.Seated as seats
use Rattle.cms_search.specs.contracts.table.AccessTable.{the_view}
use Rattle.cms_search.specs.declared.readings.KeptReading.{KeptReading}
use Rattle.cms_search.proofs.Seats.{reading_own, reading_set, reading_was, seat_lost, seat_within, some_maps, table_reads}
use Rattle.cms_search.proofs.table.AccessTable.take_reading.Goals as goal

pub unreachable-requires : goal.unreachable-requires
unreachable-requires c =
    seat_lost (the_view c.self.inside) _ c.args.letter _ c.self.view_is c.requires c.index_mut.ensures.value c.in-None.is

pub invariant_of-self : goal.invariant_of-self
invariant_of-self c =
    let none = c.take.ensures.after in
    table_reads (the_view c.self.inside) _ c.args.letter _ c.self.view_is c.requires c.index_mut.ensures.value
    (seats.the_view c.seat.inside) _ c.take.new.self c.self.invariant c.in-Some.is c.seat.view_is (rw none tt)

pub returns-clause-taken : goal.returns-clause-taken
returns-clause-taken c =
    reading_set (the_view c.self.inside) _ c.args.letter _ c.self.view_is c.requires c.index_mut.ensures.value
    _ (seats.the_view c.seat.inside) _ c.take.new.self c.in-Some.is c.seat.view_is refl
    ∙ ap (λ (r : Option KeptReading). with_reading c.args.letter r c.args.self.now) c.take.ensures.after

-- the reading that it kept, where the cursor is given
pub returns-clause-some : goal.returns-clause-some
returns-clause-some c =
    let was = reading_was (the_view c.self.inside) _ c.args.letter _ c.self.view_is c.requires c.index_mut.ensures.value (seats.the_view c.seat.inside) _ c.in-Some.is c.seat.view_is in
    some_maps c.standing.result
    (λ (x : Cursor). c.take.result ≡ Some (record { name = c.args.name.now; count = c.args.count; cursor = x }))
    (λ (x : Cursor). reading_on c.args.self.now c.args.letter ≡ Some (record { name = c.args.name.now; count = c.args.count; cursor = x }))
    (λ x is. was ∙ (sym c.take.ensures.value ∙ is)) c.standing.ensures.some

pub returns-clause-none : goal.returns-clause-none
returns-clause-none c = λ none.
    let was = reading_was (the_view c.self.inside) _ c.args.letter _ c.self.view_is c.requires c.index_mut.ensures.value (seats.the_view c.seat.inside) _ c.in-Some.is c.seat.view_is in
    subst (λ (x : Option KeptReading). IfSome x (λ r. Stood c.args.name.now c.args.count r → ⊥)) (c.take.ensures.value ∙ sym was) (c.standing.ensures.none none)

pub returns-clause-sound : goal.returns-clause-sound
returns-clause-sound c =
    some_maps c.standing.result
    (λ (x : Cursor). c.take.result ≡ Some (record { name = c.args.name.now; count = c.args.count; cursor = x }))
    (λ (x : Cursor). ForSome (item_at c.args.self.now.seats c.args.letter)
    (λ s. IsReadingOf s.disk (record { name = c.args.name.now; count = c.args.count; cursor = x })))
    (λ x is. reading_own (the_view c.self.inside) _ c.args.letter _ c.self.view_is c.requires c.index_mut.ensures.value (seats.the_view c.seat.inside) _
    (record { name = c.args.name.now; count = c.args.count; cursor = x }) c.self.invariant c.in-Some.is c.seat.view_is (sym c.take.ensures.value ∙ is))
    c.standing.ensures.some

pub index_mut-requires : goal.index_mut-requires
index_mut-requires c = seat_within (the_view c.self.inside) _ c.args.letter _ c.self.view_is c.requires c.self.inside.seats.ok.0

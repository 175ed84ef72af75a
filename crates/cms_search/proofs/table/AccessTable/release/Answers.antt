use Rattle.std.proofs.Common.{◌∙◌, Option, ap, refl, subst, sym}
use Rattle.std.specs.Option.{IsSome}
use Rattle.cms_search.specs.Tables.{AccessTable, Seated, released}
use Rattle.cms_search.specs.contracts.table.AccessTable.{the_view}
use Rattle.cms_search.proofs.Searches.{lent_none, lent_some}
use Rattle.cms_search.proofs.Seats.{seat_within}
use Rattle.cms_search.proofs.Tables.{table_released}
use Rattle.cms_search.proofs.table.AccessTable.release.Goals as goal

pub invariant_of-self : goal.invariant_of-self
invariant_of-self c = rw c.take.ensures.after (table_released (the_view c.self.inside) c.args.letter c.self.invariant)

pub index_mut-requires : goal.index_mut-requires
index_mut-requires c =
    let some = subst (λ (x : Option Seated). IsSome x) c.seated.ensures.seat (lent_some c.seated.result c.is_none.result c.is_none.ensures c.if-is_none.false) in
    seat_within (the_view c.self.inside) _ c.args.letter _ c.self.view_is some c.self.inside.seats.ok.0

pub returns-then-is_none-clause-released : goal.returns-then-is_none-clause-released
returns-then-is_none-clause-released c = tt

pub returns-then-is_none-clause-refused : goal.returns-then-is_none-clause-refused
returns-then-is_none-clause-refused c =
    let none = lent_none c.seated.result c.is_none.result c.is_none.ensures c.if-is_none.true in (refl, sym c.seated.ensures.seat ∙ none, refl)

pub returns-clause-released : goal.returns-clause-released
returns-clause-released c =
    let some = subst (λ (x : Option Seated). IsSome x) c.seated.ensures.seat (lent_some c.seated.result c.is_none.result c.is_none.ensures c.if-is_none.false) in
    let none = c.take.ensures.after in
    (some, rw none (ap (λ (t : AccessTable). released c.args.letter t) c.self.view_is))

pub returns-clause-refused : goal.returns-clause-refused
returns-clause-refused c = tt

use Rattle.std.proofs.Common.{◌≡◌, ◌∙◌, ℕ, sym, ap, subst}
use Rattle.std.specs.Prelude.{Some, None, slice_get}
use Rattle.std.specs.Option.{option_copied}
use Rattle.cms_search.specs.Searches.{item_at}
use Rattle.cms_search.specs.Tables.{AccessTable, Seated}
use Rattle.cms_search.proofs.Tables.{has_unit}
use Rattle.cms_search.proofs.table.AccessTable.seat.Goals as goal

pub returns-in_err-unit-clause-none : goal.returns-in_err-unit-clause-none
returns-in_err-unit-clause-none c =
    let t : AccessTable = record { units = c.self.inside.units; doubts = c.self.inside.doubts.items; seats = c.self.inside.seats.items } in
    let at = subst (λ (x : AccessTable). item_at x.seats c.args.letter ≡ Some c.in_ok-seat.seat.now) (sym c.self.view_is) (sym c.seated.ensures.seat ∙ ap option_copied c.in_ok-seat.was) in
    let unit : c.seat.inside.unit ≡ c.in_ok-seat.seat.now.letter.unit = ap (λ (s : Seated). s.letter.unit) c.seat.view_is in
    let none : slice_get c.self.inside.units c.seat.inside.unit ≡ None = sym c.get.ensures ∙ ap option_copied c.in_err-unit.was in
    absurd (has_unit t c.args.letter c.in_ok-seat.seat.now c.self.invariant at (subst (λ (u : ℕ). slice_get c.self.inside.units u ≡ None) unit none))

use Rattle.std.proofs.Common.{true, ◌≡◌, ◌∙◌, ℕ, sym, ap, subst, arith}
use Rattle.std.specs.Prelude.{Some}
use Rattle.std.specs.Option.{option_copied}
use Rattle.std.proofs.lemmas.Grind.{common_steps}
use Rattle.cms_search.specs.Searches.{item_at}
use Rattle.cms_search.specs.Tables.{AccessTable, IsTable, Seated, marked, released}
use Rattle.cms_search.proofs.Tables.{table_doubted, unit_within}
use Rattle.cms_search.proofs.table.AccessTable.doubt.Goals as goal

pub index_mut-requires-in-Some : goal.index_mut-requires-in-Some
index_mut-requires-in-Some c =
    let t : AccessTable = record { units = c.self.inside.units; doubts = c.self.inside.doubts.items; seats = c.self.inside.seats.items } in
    let at = subst (λ (x : AccessTable). item_at x.seats c.args.letter ≡ Some c.in-Some.seat.now) (sym c.self.view_is) (sym c.seated.ensures.seat ∙ ap option_copied c.in-Some.is) in
    let less = unit_within t c.args.letter c.in-Some.seat.now c.self.invariant at in
    let unit : c.seat.inside.unit ≡ c.in-Some.seat.now.letter.unit = ap (λ (s : Seated). s.letter.unit) c.seat.view_is in
    grind (arith, common_steps, less, unit)

pub invariant_of-self : goal.invariant_of-self
invariant_of-self c =
    let none = c.take.ensures.after in
    let t : AccessTable = record { units = c.self.inside.units; doubts = c.self.inside.doubts.items; seats = c.self.inside.seats.items } in
    let at = subst (λ (x : AccessTable). item_at x.seats c.args.letter ≡ Some c.in-Some.seat.now) (sym c.self.view_is) (sym c.seated.ensures.seat ∙ ap option_copied c.in-Some.is) in
    let unit : c.seat.inside.unit ≡ c.in-Some.seat.now.letter.unit = ap (λ (s : Seated). s.letter.unit) c.seat.view_is in
    rw none (subst (λ (u : ℕ). IsTable (released c.args.letter (marked u true t))) (sym unit)
    (table_doubted t c.args.letter c.in-Some.seat.now c.self.invariant at))

use Rattle.std.proofs.Common.{◌≡◌, ◌<◌, ◌∙◌, refl, sym, ap, subst, length, get_or}
use Rattle.std.specs.Vec.{with_item}
use Rattle.std.specs.Prelude.{None, Ok, Some, false, slice_get}
use Rattle.cms_disk.specs.declared.unit.UnitInfo.{UnitInfo}
use Rattle.cms_search.specs.Tables.{AccessTable, Seated, letter_for, table_after}
use Rattle.cms_search.specs.contracts.table.AccessTable.{the_view}
use Rattle.cms_search.proofs.Tables.{letter_so, seated_so, table_accessed, unit_same}
use Rattle.cms_search.proofs.table.AccessTable.seat_on.Goals as goal

pub invariant_of-self : goal.invariant_of-self
invariant_of-self c =
    let less = subst (λ (t : AccessTable). c.args.place < length t.units) (sym c.self.view_is) c.requires.within in
    rw c.put_on.ensures (table_accessed (the_view c.self.inside) c.args.place c.args.letter _ c.self.invariant less refl refl)

pub returns : goal.returns
returns c =
    let place = c.args.place in
    let n = c.args.letter in
    let ext = c.args.parent in
    subst (λ (t : AccessTable). (unit : UnitInfo) → slice_get t.units place ≡ Some unit
    → the_view (record c.self.inside { doubts = with_item c.self.inside.doubts place false; seats = c.put_on.new.seats })
    ≡ table_after t place (letter_for place unit.writable n ext) n (Ok c.args.disk))
    c.self.view_is
    (λ unit at.
    let same = unit_same c.self.inside.units c.as_slice.result.now place c.index-as_slice-place.result unit c.as_slice.ensures c.index-as_slice-place.is at in
    let s : Seated = record { letter = record { unit = place; parent = c.parent_of.result; read_only = c.is_read_only.result }; disk = c.args.disk; reading = None } in
    let is = letter_so place n ext unit.writable (get_or c.as_slice.result.now place c.index-as_slice-place.result).writable c.parent_of.result c.is_read_only.result c.args.disk s refl
    c.parent_of.ensures c.is_read_only.ensures (ap (λ (x : UnitInfo). x.writable) (sym c.index-as_slice-place.is ∙ same)) in
    seated_so (the_view c.self.inside) place n s (letter_for place unit.writable n ext) c.args.disk c.put_on.new.seats.items is c.put_on.ensures)

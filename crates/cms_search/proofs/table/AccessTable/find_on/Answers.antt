use Rattle.std.proofs.Common.{◌≡◌, ◌∙◌, sym, subst, true, false}
use Rattle.std.specs.Prelude.{Some, None, slice_get}
use Rattle.cms_edf.specs.FilesTold.{infos_in}
use Rattle.cms_disk.specs.Disks.{place_of}
use Rattle.cms_search.specs.Tables.{Seated}
use Rattle.cms_search.proofs.Shown.{placed_none, placed_some, placed_absent}
use Rattle.cms_search.proofs.table.AccessTable.find_on.Goals as goal

pub returns-in_err-place : goal.returns-in_err-place
returns-in_err-place c =
    let none = subst (λ (x : Seated). place_of c.args.name.now x.disk.volume ≡ None) c.seat.view_is (sym c.in_err-place.ensures) in
    c.from_residual-in_err-place.ensures
    ∙ sym (placed_none c.args.self.now c.args.mode.now c.args.name.now c.args.letter c.in_ok-seat.seat.now (sym c.in_ok-seat.ensures.seat) none)

pub returns-then-may_find : goal.returns-then-may_find
returns-then-may_find c =
    let place = subst (λ (x : Seated). place_of c.args.name.now x.disk.volume ≡ Some c.in_ok-place.place) c.seat.view_is (sym c.in_ok-place.ensures) in
    let told = subst (λ (x : Seated). slice_get (infos_in x.disk.volume) c.in_ok-place.place ≡ Some c.info-info.result) c.seat.view_is c.info-info.ensures.info in
    sym (placed_some c.args.self.now c.args.mode.now c.args.name.now c.args.letter c.in_ok-seat.seat.now c.in_ok-place.place c.info-info.result true
    (sym c.in_ok-seat.ensures.seat) place told (sym c.may_find.ensures ∙ c.if-may_find.true))

pub returns-else-may_find : goal.returns-else-may_find
returns-else-may_find c =
    let place = subst (λ (x : Seated). place_of c.args.name.now x.disk.volume ≡ Some c.in_ok-place.place) c.seat.view_is (sym c.in_ok-place.ensures) in
    let told = subst (λ (x : Seated). slice_get (infos_in x.disk.volume) c.in_ok-place.place ≡ Some c.info-info.result) c.seat.view_is c.info-info.ensures.info in
    sym (placed_some c.args.self.now c.args.mode.now c.args.name.now c.args.letter c.in_ok-seat.seat.now c.in_ok-place.place c.info-info.result false
    (sym c.in_ok-seat.ensures.seat) place told (sym c.may_find.ensures ∙ c.if-may_find.false))

pub returns-in_err-seat : goal.returns-in_err-seat
returns-in_err-seat c = c.from_residual.ensures ∙ sym (placed_absent c.args.self.now c.args.mode.now c.args.name.now c.args.letter (sym c.in_err-seat.ensures.seat))

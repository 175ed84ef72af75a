use Rattle.std.proofs.Common.{◌≡◌, ◌∙◌, Ok, refl, sym, ap}
use Rattle.std.specs.Prelude.{true, false, Bool}
use Rattle.std.proofs.lemmas.Result.{err_from_is_err_and}
use Rattle.cms_search.specs.Calls.{spot}
use Rattle.cms_world.specs.Seen.{seen}
use Rattle.cms_access.specs.EmptyVolume.{made_of}
use Rattle.cms_access.proofs.Made.{made_bad, made_good, made_starved, may_format, places_so}
use Rattle.cms_access.proofs.empty_volume.remake_disk.Goals as goal

pub format-made-requires-clause-may : goal.format-made-requires-clause-may
format-made-requires-clause-may g c =
    let may = c.requires.may in
    may_format _ c.args.state.now.table c.args.line.vdev c.args.unit.now may.unit_is may.least may.writable c.requires.usable

pub returns-in_err-is_made-clause-acts : goal.returns-in_err-is_made-clause-acts
returns-in_err-is_made-clause-acts g c =
    let p = err_from_is_err_and c.from_residual.result c.from_residual.ensures.1 in
    let st = c.args.state.now in
    rw (p.1, p.2)
    (made_starved (spot g.W.World c.args.world.now st) (seen g.W.World c.format-made.new.world) c.format-made.new.self (record st { table = c.format-made.new.self }) c.args.line c.args.volid
    c.args.unit.now c.of-stamp.result c.format-made.result _ c.requires.may c.format-made.ensures.formats (sym c.in_err-is_made.ensures) refl)

pub returns-then-is_made-clause-acts : goal.returns-then-is_made-clause-acts
returns-then-is_made-clause-acts g c =
    let st = c.args.state.now in
    let line = c.args.line in
    let yes = c.in_ok-is_made.ensures in
    let is : made_of c.format-made.result ≡ Ok true = sym yes ∙ ap (λ (b : Bool). Ok b) c.if-is_made.true in
    made_good (spot g.W.World c.args.world.now st) (seen g.W.World c.format-made.new.world) (seen g.W.World c.tell_made.new.world) c.format-made.new.self c.forget.new.places line c.args.volid
    c.args.unit.now c.of-stamp.result c.format-made.result c.tell_made.result c.requires.may c.of-stamp.ensures.value c.format-made.ensures.formats is
    (λ p. c.forget.ensures ∙ places_so st p.place line.letter line.vdev c.seat-seat.result c.args.unit.now p.place_is p.unit_is c.seat-seat.ensures.none c.seat-seat.ensures.some)
    c.tell_made.ensures.does c.tell_made.ensures.went

pub returns-else-is_made-clause-acts : goal.returns-else-is_made-clause-acts
returns-else-is_made-clause-acts g c =
    let st = c.args.state.now in
    let line = c.args.line in
    let yes = c.in_ok-is_made.ensures in
    let is : made_of c.format-made.result ≡ Ok false = sym yes ∙ ap (λ (b : Bool). Ok b) c.if-is_made.false in
    made_bad (spot g.W.World c.args.world.now st) (seen g.W.World c.format-made.new.world) (seen g.W.World c.refuse_device.new.world) c.format-made.new.self c.forget.new.places line c.args.volid
    c.args.unit.now c.of-stamp.result c.format-made.result c.refuse_device.result c.requires.may c.of-stamp.ensures.value c.format-made.ensures.formats is
    (λ p. c.forget.ensures ∙ places_so st p.place line.letter line.vdev c.seat-seat.result c.args.unit.now p.place_is p.unit_is c.seat-seat.ensures.none c.seat-seat.ensures.some)
    c.refuse_device.ensures.does c.refuse_device.ensures.went

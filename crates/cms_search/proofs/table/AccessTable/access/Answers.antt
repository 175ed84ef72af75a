use Rattle.std.proofs.Common.{◌∙◌, Err, ap, ◌<◌, ℕ, length, subst, arith, ◌≡◌, refl}
use Rattle.std.specs.Prelude.{Result, OnErr}
use Rattle.cms_search.specs.Tables.{EndsAccess}
use Rattle.cms_search.specs.declared.fault.SearchFault.{SearchFault}
use Rattle.cms_search.proofs.Tables.{get_some}
use Rattle.cms_world.specs.Seen.{seen}
use Rattle.cms_search.proofs.KeptReads.{at_err}
use Rattle.std.proofs.lemmas.Result.{err_from_is_err_and}
use Rattle.cms_search.proofs.table.AccessTable.access.Goals as goal

pub returns-clause-access : goal.returns-clause-access
returns-clause-access g c =
    let t = c.args.self.now in
    let place = c.in_ok-place.place in
    let within = c.in_ok-place.ensures.within in
    let long = c.open-found.ensures.table.doubts in
    let less : place < length t.doubts = omega (arith, within, long) in
    let unit = get_some t.units place within in
    let doubt = get_some t.doubts place less in
    subst
    (λ (r : Result ℕ SearchFault). EndsAccess (g.W.World.told c.args.world.now) (g.W.World.told c.open-found.new.world) t c.settle.new.self c.args.letter c.args.parent c.settle.result r)
    c.in_ok-place.ensures.wanted
    (unit.0, doubt.0, c.open-found.result, unit.1, doubt.1, c.open-found.ensures.opens unit.0 doubt.0 unit.1 doubt.1, c.settle.ensures.answer, c.settle.ensures.table unit.0 unit.1)

pub open-found-requires-clause-within : goal.open-found-requires-clause-within
open-found-requires-clause-within g c = c.in_ok-place.ensures.within

pub settle-requires-clause-within : goal.settle-requires-clause-within
settle-requires-clause-within g c = c.in_ok-place.ensures.within

pub settle-requires-clause-letter : goal.settle-requires-clause-letter
settle-requires-clause-letter g c = c.requires.letter

pub returns-clause-unlooked : goal.returns-clause-unlooked
returns-clause-unlooked g c = subst (λ (r : Result ℕ SearchFault). OnErr r (seen g.W.World c.open-found.new.world ≡ seen g.W.World c.args.world.now)) c.in_ok-place.ensures.wanted tt

pub returns-in_err-place-clause-access : goal.returns-in_err-place-clause-access
returns-in_err-place-clause-access g c =
    let p = err_from_is_err_and c.from_residual.result c.from_residual.ensures.1 in
    let is : c.from_residual.result ≡ Err c.in_err-place.field-0.0 = p.1 ∙ ap (λ (e : SearchFault). Err e) p.2 in
    subst
    (λ (r : Result ℕ SearchFault). EndsAccess (g.W.World.told c.args.world.now) (g.W.World.told c.args.world.now) c.args.self.now c.args.self.now c.args.letter c.args.parent c.from_residual.result r)
    c.in_err-place.ensures.wanted
    (is, refl, refl)

pub returns-in_err-place-clause-unlooked : goal.returns-in_err-place-clause-unlooked
returns-in_err-place-clause-unlooked g c = at_err _ _ refl

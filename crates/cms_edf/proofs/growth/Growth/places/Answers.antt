use Rattle.std.proofs.Common.{◌≡◌, ◌-◌, Ok, refl, subst, sym, ◌∙◌}
use Rattle.std.specs.declared.alloc.AllocError.{AllocError}
use Rattle.std.specs.List.Sorted.{IsStrictlyIncreasing}
use Rattle.std.proofs.lemmas.Iterator.{YieldsList-from_range, items_from_collect}
use Rattle.std.proofs.lemmas.Result.{IfOk-weaker}
use Rattle.cms_held.specs.Growths.{places_behind}
use Rattle.cms_edf.proofs.Grown.{behind_ascends}
use Rattle.cms_edf.proofs.growth.Growth.places.Goals as goal

pub of_shared-requires-clause-ascends : goal.of_shared-requires-clause-ascends
of_shared-requires-clause-ascends c =
    let g = c.args.self.now in
    let is : c.in_ok-written.written.items ≡ places_behind g.kept g.count =
    items_from_collect {E = AllocError} (Ok c.in_ok-written.written) c.in_ok-written.ensures.ran (YieldsList-from_range g.kept g.count (g.count - g.kept) refl refl) in
    subst IsStrictlyIncreasing (sym is) (behind_ascends g.kept g.count)

pub returns-clause-leaves : goal.returns-clause-leaves
returns-clause-leaves c =
    let g = c.args.self.now in
    let is : c.in_ok-written.written.items ≡ places_behind g.kept g.count =
    items_from_collect {E = AllocError} (Ok c.in_ok-written.written) c.in_ok-written.ensures.ran (YieldsList-from_range g.kept g.count (g.count - g.kept) refl refl) in
    IfOk-weaker c.of_shared.result _ _ (λ p leaves. leaves ∙ is) c.of_shared.ensures.leaves

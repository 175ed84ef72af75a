use Rattle.std.proofs.Common.{◌≡◌, ℕ, ◌+◌, length, List, ◌∷◌, [], None, refl, sym, ◌∙◌, ap, subst, All, length-append}
use Rattle.std.specs.Prelude.{replicate}
use Rattle.std.proofs.lemmas.List.Elements.{All-push}
use Rattle.cms_tree.specs.declared.climb.Level.{Level}
use Rattle.cms_tree.specs.Resumes.{IsClear}
use Rattle.cms_tree.proofs.climb.clear_levels.Goals as goal

pub loop-preserved : goal.loop-preserved
loop-preserved c =
    let items = c.in_ok-push.ensures.items in
    let level : Level = record { bytes = c.in_ok-vec.field-0; place = None } in
    let long = ap (λ (l : List Level). length l) items in
    let zeros : c.in_ok-vec.field-0.items ≡ replicate c.args.bsize 0 = c.in_ok-vec.ensures.items_if_clones_equal (λ y is. is) ∙ ap (λ (n : ℕ). replicate n 0) c.bytes.ensures.value in
    record {
      count = long ∙ length-append c.loop.levels.items (level ∷ []) ∙ ap (λ (n : ℕ). n + 1) c.loop.invariant.count;
      clear = subst (All (IsClear c.args.bsize)) (sym items) (All-push (IsClear c.args.bsize) c.loop.levels.items level c.loop.invariant.clear (zeros, refl));
    }

-- A tree that stands level by level is read.
use Rattle.std.proofs.Common.{◌≡◌, ℕ, zero, suc, ◌^◌, ◌<◌, ◌≤◌, List, [], ◌∷◌, ◌++◌, length, None, refl, sym, subst, arith}
use Rattle.std.proofs.Math.Nat.{pow-zero}
use Rattle.std.specs.List.{concat}
use Rattle.cms_model.specs.Trees.{Image, Form}
use Rattle.cms_model.specs.Sizes.{levels}
use Rattle.cms_model.specs.Built.{AllAllowed, Built}
use Rattle.cms_model.specs.ByLevels.{Heaped}
use Rattle.cms_model.proofs.BuiltTrees.{built_reads}
use Rattle.cms_model.proofs.Shapes.{levels_needs}
use Rattle.cms_model.proofs.SharedTiers.{points_tier}
use Rattle.cms_tree.specs.Paths.{HeapedIsRead}
use Rattle.cms_tree.proofs.BuiltTrees.{Fits, fits_above}

allowed_both : (last : ℕ) (xs ys : List ℕ) → AllAllowed last None (xs ++ ys) → AllAllowed last None xs × AllAllowed last None ys
allowed_both last [] ys all = (tt, all)
allowed_both last (x ∷ xs) ys all = let rest = allowed_both last xs ys all.1 in ((all.0, rest.0), rest.1)

heaped_built : (form : Form) (image : Image) → 1 ≤ form.fan → (k : ℕ) (below : List ℕ) (tiers : List (List ℕ)) (root : ℕ) → Fits form.fan k (length below) → length tiers ≡ k
    → Heaped form image below tiers (root ∷ []) → AllAllowed form.last None (concat tiers) → Built form image k below root (concat tiers)
heaped_built form image some zero below [] root fits long heaped allowed = (heaped, refl)
heaped_built form image some zero below (tier ∷ more) root fits long heaped allowed = absurd (omega arith)
heaped_built form image some (suc k) below [] root fits long heaped allowed = absurd (omega arith)
heaped_built form image some (suc k) below (tier ∷ more) root fits long heaped allowed =
    let unit : form.fan ^ 0 ≡ 1 = pow-zero form.fan in
    let two : form.fan ^ 0 < length below = fits.fewer 0 (omega arith) in
    let wide = (points_tier form image some tier below heaped.0).long in
    let both = allowed_both form.last tier (concat more) allowed in (
      tier,
      concat more,
      omega arith,
      heaped.0,
      both.0,
      refl,
      heaped_built form image some k tier more root (subst (Fits form.fan k) (sym wide) (fits_above form.fan k (length below) some fits)) (omega arith) heaped.1 both.1,
    )

pub heaped_is_read : HeapedIsRead
heaped_is_read form image first holder root leaves tiers wide some few long heaped allowed allowed' =
    let k = levels form.fan (length leaves) in
    let needs = levels_needs form.fan (length leaves) wide few in
    built_reads form image k first holder root leaves (concat tiers) (omega arith)
    (heaped_built form image (omega arith) k leaves tiers root (record { some = some; room = needs.fits; fewer = needs.fewer }) long heaped allowed') allowed

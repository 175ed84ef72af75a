-- A tree that grows shares its blocks with the tree before.
use Rattle.std.proofs.Common.{◌≡◌, inl, inr, ⊎_elim, ℕ, zero, suc, ◌+◌, ◌-◌, ◌/◌, ◌^◌, ◌<◌, ◌≤◌, min, true, false, List, [], ◌∷◌, ◌++◌, length, get_or, refl, sym, ◌∙◌, ap, subst, arith, length-append}
use Rattle.std.specs.List.{range_with_len}
use Rattle.std.proofs.lemmas.Bool.{cases_lt}
use Rattle.std.proofs.Math.Nat.{div-one, pow-zero}
use Rattle.cms_model.specs.Lists.{In}
use Rattle.cms_model.specs.SharedTiers.{SameLeaves, Shared}
use Rattle.cms_model.specs.Sizes.{levels}
use Rattle.cms_model.proofs.Shapes.{levels_needs}
use Rattle.cms_model.proofs.SharedTiers.{up_one}
use Rattle.cms_tree.specs.Builds.{Child, root_of}
use Rattle.cms_tree.specs.Paths.{PointFresh, levels_of, path_levels}
use Rattle.cms_tree.specs.Resumes.{kept_levels, root_child}
use Rattle.cms_tree.specs.Tiers.{lowest, node_on, put_node}
use Rattle.cms_tree.proofs.BuiltTrees.{fan_wide}
use Rattle.cms_tree.proofs.ClimbSteps.{over_all}
use Rattle.cms_tree.proofs.Paths.{path_is_shared, power_low}
use Rattle.cms_tree.proofs.Resumes.{length-levels_of}
use Rattle.cms_held.specs.Drafts.{draft_writes}
use Rattle.cms_held.specs.Growths.{GrownIsShared, KeepsFront, form_on, last_leaf, places_behind}
use Rattle.cms_held.specs.Allotments.{KeepsTree}
use Rattle.cms_held.specs.HeldVolumes.{HeldTree}
use Rattle.cms_held.specs.SharedBlocks.{levels_in}
use Rattle.cms_held.proofs.DraftBlocks.{has_among, node_written}
use Rattle.cms_held.proofs.DraftOwn.{fits_in}
use Rattle.cms_held.proofs.GrownLevels.{Growing, GrowsAt, grown_points}
use Rattle.cms_model.proofs.WrittenBlocks.{leaf_written}
use Rattle.cms_held.proofs.SharedWrites.{paths_back}

-- ---- the places that are written

range_low : (a n x : ℕ) → In x (range_with_len a n) → (a ≤ x) × (x < a + n)
range_low a zero x there = elim there [ ]
range_low a (suc n) x (inl is) = (omega arith, omega arith)
range_low a (suc n) x (inr more) = let r = range_low (a + 1) n x more in let low = r.0 in let high = r.1 in (omega arith, omega arith)

range_has : (a n x : ℕ) → a ≤ x → x < a + n → In x (range_with_len a n)
range_has a zero x low high = absurd (omega arith)
range_has a (suc n) x low high = ⊎_elim
    (λ (more : a < x). inr (range_has (a + 1) n x (omega arith) (omega arith)))
    (λ (here : x ≤ a). inl (same a x low here))
    (cases_lt a x)
  where
    same : (a x : ℕ) → a ≤ x → x ≤ a → x ≡ a
    same a x low here = omega arith

pub behind_low : (kept count x : ℕ) → In x (places_behind kept count) → kept ≤ x
behind_low kept count x there = (range_low kept (count - kept) x there).0

pub behind_all : (kept count x : ℕ) → kept ≤ x → x < count → In x (places_behind kept count)
behind_all kept count x low less = range_has kept (count - kept) x low (omega arith)

pub keeps_tree : (fan kept : ℕ) (old new : HeldTree) → KeepsFront fan kept old new → KeepsTree fan (places_behind kept (length new.leaves)) old new
keeps_tree fan kept old new k = record {
  leaves = λ j less isnt. ⊎_elim
      (λ (low : j < kept). k.leaves j low)
      (λ (high : kept ≤ j). absurd (isnt (behind_all kept (length new.leaves) j high less)))
      (cases_lt j kept);
  nodes = k.nodes;
  count = k.count;
  path = k.path;
}

-- ---- the root

root_same : (leaves pointers : List ℕ) → 1 ≤ length leaves → root_of (get_or leaves (length leaves - 1) 0 ∷ []) pointers ≡ root_of leaves pointers
root_same leaves [] some = refl' leaves some
  where
    refl' : (xs : List ℕ) → 1 ≤ length xs → root_of (get_or xs (length xs - 1) 0 ∷ []) [] ≡ root_of xs []
    refl' xs some = ap (λ (l : List ℕ). get_or l (length l - 1) 0) (sym (nil xs))
      where
        nil : (ys : List ℕ) → ys ++ [] ≡ ys
        nil [] = refl
        nil (y ∷ ys) = ap (λ (l : List ℕ). y ∷ l) (nil ys)
root_same leaves (p ∷ ps) some =
    let one = get_or leaves (length leaves - 1) 0 ∷ [] in
    let a = length-append one (p ∷ ps) in
    let b = length-append leaves (p ∷ ps) in
    let at : length (one ++ (p ∷ ps)) - 1 ≡ length one + length ps = omega arith in
    let at' : length (leaves ++ (p ∷ ps)) - 1 ≡ length leaves + length ps = omega arith in
    ap (λ (k : ℕ). get_or (one ++ (p ∷ ps)) k 0) at ∙ behind one (p ∷ ps) (length ps)
    ∙ sym (ap (λ (k : ℕ). get_or (leaves ++ (p ∷ ps)) k 0) at' ∙ behind leaves (p ∷ ps) (length ps))
  where
    behind : (xs ys : List ℕ) (k : ℕ) → get_or (xs ++ ys) (length xs + k) 0 ≡ get_or ys k 0
    behind [] ys k = let e : 0 + k ≡ k = omega arith in ap (λ (i : ℕ). get_or ys i 0) e
    behind (x ∷ xs) ys k = let e : suc (length xs) + k ≡ suc (length xs + k) = omega arith in ap (λ (i : ℕ). get_or (x ∷ (xs ++ ys)) i 0) e ∙ behind xs ys k

-- ---- the levels

more_levels : (fan a b : ℕ) → 2 ≤ fan → a ≤ b → b < 2 ^ 32 → levels fan a ≤ levels fan b
more_levels fan a b wide low small = ⊎_elim
    (λ (fewer : levels fan b < levels fan a).
    let high = power_low fan a (levels fan b) wide (omega arith) fewer in
    let fits = (levels_needs fan b wide small).fits in
    absurd (omega arith))
    (λ (le : levels fan a ≤ levels fan b). le)
    (cases_lt (levels fan b) (levels fan a))

pub grown_is_shared : GrownIsShared
grown_is_shared bsize psize last earlier later old new marks kept es mark bytes g = record { leaves = leaves; pointers = pointers }
  where
    fan : ℕ
    fan = bsize / psize

    o : ℕ
    o = length old.leaves

    c : ℕ
    c = length new.leaves

    written : List ℕ
    written = places_behind kept c

    wide : 2 ≤ fan
    wide = let w = fan_wide bsize psize g.plan.size g.plan.pointer in omega arith

    whole : Growing bsize psize o c kept written
    whole = record {
      kind = g.plan.pointer;
      wide = wide;
      fits = fits_in bsize psize fan g.plan.pointer (omega arith);
      kept_old = g.keeps.kept_old;
      less = g.keeps.less;
      more = g.keeps.more;
      behind = behind_low kept c;
      all = behind_all kept c;
    }

    root : Child
    root = root_child old.pointers (last_leaf old) mark

    root_is : root.block ≡ root_of old.leaves old.pointers
    root_is = root_same old.leaves old.pointers g.old_shape.some

    lower : min (levels fan o) (levels fan c) ≡ levels fan o
    lower = let l = more_levels fan o c wide g.keeps.more g.shape.few in omega arith

    es_is : es ≡ kept_levels fan psize earlier root (levels_in fan old) kept false (levels fan c)
    es_is = g.es_is ∙ ap (λ (k : ℕ). kept_levels fan psize earlier root (levels_of fan 1 o k old.pointers) kept false (levels fan c)) lower

    at : GrowsAt bsize psize last o c kept marks earlier later new.pointers (levels fan c) (lowest kept new.leaves) es root false (levels_in fan old) old.leaves 1
    at = record {
      height = 0;
      power = sym (pow-zero fan);
      some = omega arith;
      kept_is = sym (div-one kept);
      less = g.keeps.less;
      count_is = up_one c;
      within = g.keeps.kept_old;
      same = g.keeps.leaves;
      heaped = rw root_is g.stands;
      low = let e = length-levels_of fan 1 o (levels fan o) old.pointers in
          let fits = (levels_needs fan o wide g.old_shape.few).fits in let k = g.keeps.kept_old in subst (λ (n : ℕ). kept ≤ fan ^ n) (sym e) (omega arith);
      es_is = es_is;
      keeps = g.fits;
      words = g.words;
      room = let all = over_all fan c (omega (arith, wide)) in let n = g.plan.numbers in omega arith;
      has = λ k nth low less there.
          let z : nth ≡ nth - 0 = omega arith in
          has_among later (draft_writes bsize psize new.leaves marks new.pointers kept es bytes c) (put_node new.pointers (node_on bsize psize new.leaves marks new.pointers kept es) nth) g.has
          (node_written bsize psize new.leaves marks new.pointers kept es bytes c k nth low less there)
          ∙ ap (node_on bsize psize new.leaves marks new.pointers kept es) z;
    }

    levels_are : levels_in fan new ≡ path_levels fan o old.pointers c written g.keeps.nodes
    levels_are = ap (levels_of fan 1 c (levels fan c)) g.keeps.path ∙ paths_back fan 1 o c written (levels_in fan old) (levels fan c) g.keeps.nodes

    points : PointFresh (form_on bsize psize last) later 1 o c written (levels_in fan old) new.leaves (path_levels fan o old.pointers c written g.keeps.nodes)
    points = grown_points bsize psize last o c kept written marks earlier later new.pointers (levels fan c) (lowest kept new.leaves) es root false (levels_in fan old) old.leaves 1 g.keeps.nodes whole
        (rw root_is g.root_word) g.node_words at levels_are

    pointers : Shared (form_on bsize psize last) earlier later 1 o c written (levels_in fan old) new.leaves (levels_in fan new)
    pointers = rw levels_are (path_is_shared (form_on bsize psize last) earlier later o old.pointers new.leaves written g.keeps.nodes (omega (arith, wide)) g.old_shape.nodes g.same points)

    leaves : SameLeaves o c written old.leaves new.leaves
    leaves x less is = g.keeps.leaves x (⊎_elim
        (λ (low : x < kept). low)
        (λ (high : kept ≤ x). absurd (clash (sym is ∙ leaf_written o c x written less (behind_all kept c x high less))))
        (cases_lt x kept))
      where
        clash : true ≡ false → ⊥
        clash e = cc

-- The blocks met lie within the volume.
use Rattle.std.proofs.Common.{◌≡◌, ◌⊎◌, inl, inr, ⊎_elim, ℕ, suc, ◌+◌, ◌*◌, ◌^◌, ◌≤◌, List, [], ◌∷◌, ◌++◌, length, Option, Some, None, true, refl, sym, ◌∙◌, ap, subst, arith, length-append}
use Rattle.std.specs.List.{concat}
use Rattle.std.specs.Prelude.{nat_le}
use Rattle.std.proofs.lemmas.Bool.{and_parts, leb-true, eqb-true}
use Rattle.cms_model.specs.Lists.{In}
use Rattle.cms_model.specs.Trees.{is_allowed}
use Rattle.cms_model.proofs.Members.{In-either as either, In-left as front_in, In-right as behind_in}
use Rattle.cms_tree.specs.declared.read.MetBlocks.{MetBlocks}
use Rattle.cms_tree.specs.Walks.{AreWithin}
use Rattle.cms_tree.specs.declared.read.Tier.{Tier}
use Rattle.cms_tree.specs.Parts.{blocks_in, AreMore, Grows, IsTaken, MetWithin, StaysWithin}
use Rattle.cms_tree.proofs.Rest.{blocks_push, concat_top, length-blocks_in, more_both, more_none, more_top}

in_push : (n x : ℕ) (xs : List ℕ) → In n (xs ++ x ∷ []) → In n xs ⊎ (n ≡ x)
in_push n x [] (inl is) = inr is
in_push n x [] (inr none) = absurd none
in_push n x (y ∷ ys) (inl is) = inl (inl is)
in_push n x (y ∷ ys) (inr more) = ⊎_elim (λ there. inl (inr there)) (λ is. inr is) (in_push n x ys more)

-- an allowed block is within
pub allowed_within : (last : ℕ) (first fixed : Option ℕ) (n : ℕ) → is_allowed last first n ≡ true → (first ≡ None) ⊎ (first ≡ fixed) → ((6 ≤ n) × (n ≤ last)) ⊎ (fixed ≡ Some n)
unfolding is_allowed
allowed_within last None fixed n is same = let both = and_parts (nat_le 6 n) (nat_le n last) is in inl (leb-true 6 n both.0, leb-true n last both.1)
allowed_within last (Some f) fixed n is (inl none) = absurd (cc)
allowed_within last (Some f) fixed n is (inr same) = let at : n ≡ f = eqb-true n f is in inr (sym same ∙ subst (λ (m : ℕ). Some f ≡ Some m) (sym at) refl)

pub push_within : (last : ℕ) (fixed : Option ℕ) (xs ys : List ℕ) (n : ℕ) → ys ≡ xs ++ n ∷ [] → ((6 ≤ n) × (n ≤ last)) ⊎ (fixed ≡ Some n) → AreWithin last fixed xs → AreWithin last fixed ys
push_within last fixed xs ys n is within all m in' = ⊎_elim
    (λ there. all m there)
    (λ (at : m ≡ n). subst (λ (x : ℕ). ((6 ≤ x) × (x ≤ last)) ⊎ (fixed ≡ Some x)) (sym at) within)
    (in_push m n xs (subst (In m) is in'))

pub taken_within : (last : ℕ) (first : Option ℕ) (root : ℕ) (tier tier' : Tier) (old new : MetBlocks) → IsTaken last root tier tier' old new → StaysWithin last first old new
taken_within last first root tier tier' old new taken = λ fixed same all.
    record {
      blocks = push_within last fixed old.blocks.items new.blocks.items root taken.blocks (low fixed) all.blocks;
      leaves = rw taken.leaves all.leaves;
    }
  where
    low : (f : Option ℕ) → ((6 ≤ root) × (root ≤ last)) ⊎ (f ≡ Some root)
    low f = allowed_within last None f root taken.allowed (inl refl)

pub leaf_within : (last : ℕ) (first : Option ℕ) (root : ℕ) (old new : MetBlocks) → is_allowed last first root ≡ true → new.blocks.items ≡ old.blocks.items ++ root ∷ []
    → new.leaves.items ≡ old.leaves.items ++ root ∷ []
    → StaysWithin last first old new
leaf_within last first root old new allowed blocks leaves = λ fixed same all.
    let within = allowed_within last first fixed root allowed same in
    record {
      blocks = push_within last fixed old.blocks.items new.blocks.items root blocks within all.blocks;
      leaves = push_within last fixed old.leaves.items new.leaves.items root leaves within all.leaves;
    }

-- a part stays within, whose first data block has the whole's fixed place or none
pub part_within : (last : ℕ) (first next : Option ℕ) (old now new : MetBlocks) → (next ≡ None) ⊎ (next ≡ first) → StaysWithin last first old now → StaysWithin last next now new
    → StaysWithin last first old new
part_within last first next old now new is before part = λ fixed same all.
    part fixed (⊎_elim (λ none. inl none) (λ (at : next ≡ first). ⊎_elim (λ (none : first ≡ None). inl (at ∙ none)) (λ (whole : first ≡ fixed). inr (at ∙ whole)) same) is) (before fixed same all)

pub none_within : (last : ℕ) (first : Option ℕ) (met : MetBlocks) → met.blocks.items ≡ [] → met.leaves.items ≡ [] → MetWithin last first met
none_within last first met blocks leaves = record { blocks = rw blocks (λ n h. absurd h); leaves = rw leaves (λ n h. absurd h) }

-- ---- level by level

-- the blocks of a tree are more on its levels, and lie within
pub node_grows : (fan last root count k : ℕ) (below below' : List Tier) (top top' : Tier) (old new : MetBlocks) (ts ts' : List Tier) → 1 ≤ fan → 1 ≤ count → count ≤ fan ^ k → length ts ≡ k
    → IsTaken last root top top' old new → ts ≡ below ++ top ∷ [] → ts' ≡ below' ++ top' ∷ [] → Grows fan last count below below' → Grows fan last count ts ts'
node_grows fan last root count k below below' top top' old new ts ts' some pos room long taken parts parts' g =
    let long' = ap (λ (l : List Tier). length l) parts in
    let long'' = length-append below (top ∷ []) in
    let deep = length-blocks_in below in
    let levels : k ≡ suc (length (blocks_in below)) = omega arith in
    let room' : count ≤ fan ^ suc (length (blocks_in below)) = subst (λ (n : ℕ). count ≤ fan ^ n) levels room in
    let one : length top'.blocks.items ≡ length top.blocks.items + 1 = ap length taken.of_tier ∙ length-append top.blocks.items (root ∷ []) in
    record {
      more = subst (λ (l : List Tier). AreMore fan count (blocks_in l) (blocks_in ts')) (sym parts) (subst (λ (l : List Tier). AreMore fan count (blocks_in (below ++ top ∷ [])) (blocks_in l)) (sym parts')
          (subst (λ (l : List (List ℕ)). AreMore fan count l (blocks_in (below' ++ top' ∷ []))) (sym (blocks_push below top))
          (subst (λ (l : List (List ℕ)). AreMore fan count (blocks_in below ++ top.blocks.items ∷ []) l) (sym (blocks_push below' top'))
          (more_top fan count (blocks_in below) (blocks_in below') top.blocks.items top'.blocks.items some pos room' one g.more))));
      within = λ all n is_in.
          let whole : concat (blocks_in ts) ≡ concat (blocks_in below) ++ top.blocks.items = ap (λ (l : List Tier). concat (blocks_in l)) parts ∙ concat_top below top in
          let whole' : concat (blocks_in ts') ≡ concat (blocks_in below') ++ top'.blocks.items = ap (λ (l : List Tier). concat (blocks_in l)) parts' ∙ concat_top below' top' in
          ⊎_elim
          (λ there. g.within (λ m is. all m (subst (In m) (sym whole) (front_in m (concat (blocks_in below)) top.blocks.items is))) n there)
          (λ own. push_within last None top.blocks.items top'.blocks.items root taken.of_tier (allowed_within last None None root taken.allowed (inl refl))
          (λ m is. all m (subst (In m) (sym whole) (behind_in m (concat (blocks_in below)) top.blocks.items is))) n own)
          (either n (concat (blocks_in below')) top'.blocks.items (subst (In n) whole' is_in));
    }

-- whole blocks of the highest level, and then those of a part
pub grows_both : (fan last a b q : ℕ) (ts ts' ts'' : List Tier) → 1 ≤ fan → a ≡ q * fan ^ length ts → Grows fan last a ts ts' → Grows fan last b ts' ts'' → Grows fan last (a + b) ts ts''
grows_both fan last a b q ts ts' ts'' some is g h = record {
  more = more_both fan a b q (blocks_in ts) (blocks_in ts') (blocks_in ts'') some (is ∙ ap (λ (n : ℕ). q * fan ^ n) (sym (length-blocks_in ts))) g.more h.more;
  within = λ all. h.within (g.within all);
}

pub grows_none : (fan last : ℕ) (ts : List Tier) → 1 ≤ fan → Grows fan last 0 ts ts
grows_none fan last ts some = record { more = more_none fan (blocks_in ts) some; within = λ all. all }

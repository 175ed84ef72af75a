-- The blocks of a tree that keeps some of the tree before: each is one of these, or is taken.
use Rattle.std.proofs.Common.{◌≡◌, ◌⊎◌, inl, inr, ⊎_elim, ℕ, zero, suc, ◌*◌, ◌<◌, ◌≤◌, Bool, true, false, if◌then◌else◌, List, [], ◌∷◌, length, take, drop, get_or, All, refl, sym, subst, arith, length-drop, mul-pos}
use Rattle.std.specs.List.{concat}
use Rattle.std.proofs.lemmas.List.{length-take-le}
use Rattle.std.proofs.lemmas.List.Elements.{All-nil, All-cons}
use Rattle.cms_fields.specs.Numbers.{up}
use Rattle.cms_model.specs.Lists.{In}
use Rattle.cms_model.specs.SharedTrees.{MayBeWritten, fresh_on, is_kept}
use Rattle.cms_model.specs.SharedTimes.{without}
use Rattle.cms_model.specs.Sizes.{levels, pointer_count}
use Rattle.cms_model.proofs.Members.{In-either, In-right}
use Rattle.cms_tree.specs.Paths.{levels_of, numbered, paths}
use Rattle.cms_tree.proofs.Own.{in_at, in_drop, in_take}
use Rattle.cms_tree.proofs.Paths.{count_first, fresh_first, fresh_room, kept_inside, left_count, left_fresh}
use Rattle.cms_held.specs.Allotments.{KeepsTree}
use Rattle.cms_held.specs.HeldVolumes.{HeldTree}
use Rattle.cms_held.specs.SharedBlocks.{fresh_of}
use Rattle.cms_held.proofs.KeptTrees.{leaf_comes, nodes_come}

-- ---- a level

in_chosen : (had : Bool) (size before count : ℕ) (written tier fresh : List ℕ) (m j n : ℕ) → 1 ≤ size → j < m → m ≤ up count size → (had ≡ true → up before size ≤ length tier)
    → fresh_on had size before count written m ≤ length fresh
    → n ≡ (if is_kept had size before count written j then get_or tier j 0 else get_or fresh (fresh_on had size before count written j) 0) → In n tier ⊎ In n fresh
in_chosen had size before count written tier fresh m j n some less within long enough is = go (is_kept had size before count written j) refl is
  where
    go : (b : Bool) → is_kept had size before count written j ≡ b → n ≡ (if b then get_or tier j 0 else get_or fresh (fresh_on had size before count written j) 0) → In n tier ⊎ In n fresh
    go true kept same =
        let inside = kept_inside had size before count written j some (omega arith) kept in
        let room = long inside.0 in
        let low = inside.1 in
        inl (subst (λ (k : ℕ). In k tier) (sym same) (in_at tier j (omega arith)))
    go false kept same =
        let room = fresh_room had size before count written j m less kept in
        inr (subst (λ (k : ℕ). In k fresh) (sym same) (in_at fresh (fresh_on had size before count written j) (omega arith)))

in_level : (had : Bool) (size before count : ℕ) (written tier fresh : List ℕ) (m k n : ℕ) → 1 ≤ size → k ≤ m → m ≤ up count size → (had ≡ true → up before size ≤ length tier)
    → fresh_on had size before count written m ≤ length fresh → In n (numbered had size before count written tier fresh k) → In n tier ⊎ In n fresh
unfolding numbered
in_level had size before count written tier fresh m zero n some few within long enough there = absurd there
in_level had size before count written tier fresh m (suc j) n some few within long enough there =
    let number = if is_kept had size before count written j then get_or tier j 0 else get_or fresh (fresh_on had size before count written j) 0 in
    ⊎_elim
    (λ (front : In n (numbered had size before count written tier fresh j)). in_level had size before count written tier fresh m j n some (omega arith) within long enough front)
    (λ (last : In n (number ∷ [])). ⊎_elim
    (λ (is : n ≡ number). in_chosen had size before count written tier fresh m j n some (omega arith) within long enough is)
    (λ (none : ⊥). absurd none) last)
    (In-either n (numbered had size before count written tier fresh j) (number ∷ []) there)

-- ---- all levels

either_drop : (n a b : ℕ) (xs ys : List ℕ) → In n (drop a xs) ⊎ In n (drop b ys) → In n xs ⊎ In n ys
either_drop n a b xs ys c = ⊎_elim (λ (left : In n (drop a xs)). inl (in_drop n a xs left)) (λ (right : In n (drop b ys)). inr (in_drop n b ys right)) c

in_levels : (fan size before count : ℕ) (written numbers : List ℕ) (h k : ℕ) (fresh : List ℕ) (n : ℕ) → 1 ≤ fan → 1 ≤ size → left_count fan size before h ≤ length numbers
    → left_fresh fan size before count written h k ≤ length fresh → In n (concat (paths fan size before count written (levels_of fan size before h numbers) k fresh)) → In n numbers ⊎ In n fresh
unfolding paths left_fresh left_count levels_of
in_levels fan size before count written numbers zero zero fresh n wide some olds enough there = absurd there
in_levels fan size before count written numbers (suc h) zero fresh n wide some olds enough there = absurd there
in_levels fan size before count written numbers zero (suc k) fresh n wide some olds enough there =
    let m = up count (size * fan) in
    let taken = fresh_on false (size * fan) before count written m in
    let more : 1 ≤ size * fan = mul-pos some wide in
    let long = length-drop taken fresh in
    let tier = numbered false (size * fan) before count written [] fresh m in
    let rest = paths fan (size * fan) before count written [] k (drop taken fresh) in
    ⊎_elim
    (λ (here : In n tier). ⊎_elim (λ (none : In n []). absurd none) (λ (own : In n fresh). inr own)
    (in_level false (size * fan) before count written [] fresh m m n more (omega arith) (omega arith) (λ bad. absurd (cc)) (omega arith) here))
    (λ (above : In n (concat rest)). either_drop n 0 taken numbers fresh
    (in_levels fan (size * fan) before count written numbers zero k (drop taken fresh) n wide more (omega arith) (omega arith) above))
    (In-either n tier (concat rest) there)
in_levels fan size before count written numbers (suc h) (suc k) fresh n wide some olds enough there =
    let m = up count (size * fan) in
    let b = up before (size * fan) in
    let taken = fresh_on true (size * fan) before count written m in
    let more : 1 ≤ size * fan = mul-pos some wide in
    let long = length-drop taken fresh in
    let front : length (take b numbers) ≡ b = length-take-le b numbers (omega arith) in
    let behind = length-drop b numbers in
    let tier = numbered true (size * fan) before count written (take b numbers) fresh m in
    let rest = paths fan (size * fan) before count written (levels_of fan (size * fan) before h (drop b numbers)) k (drop taken fresh) in
    ⊎_elim
    (λ (here : In n tier). ⊎_elim (λ (old : In n (take b numbers)). inl (in_take n b numbers old)) (λ (own : In n fresh). inr own)
    (in_level true (size * fan) before count written (take b numbers) fresh m m n more (omega arith) (omega arith) (λ is. omega arith) (omega arith) here))
    (λ (above : In n (concat rest)). either_drop n b taken numbers fresh
    (in_levels fan (size * fan) before count written (drop b numbers) h k (drop taken fresh) n wide more (omega arith) (omega arith) above))
    (In-either n tier (concat rest) there)

-- a pointer block is one of the tree before, or is taken
node_kept : (fan : ℕ) (written : List ℕ) (old new : HeldTree) → 1 ≤ fan → length old.pointers ≡ pointer_count fan (length old.leaves) → KeepsTree fan written old new → (n : ℕ) → In n new.pointers
    → In n old.pointers ⊎ In n (fresh_of fan written old new)
unfolding pointer_count
node_kept fan written old new some olds k n there =
    let before = length old.leaves in
    let count = length new.leaves in
    let first = count_first fan before (levels fan before) in
    let fresh = fresh_first fan before count written (levels fan count) in
    let enough = k.count in
    ⊎_elim (λ (was : In n old.pointers). inl was)
    (λ (own : In n k.nodes).
    inr (In-right n (without (is_kept true 1 before count written) 0 new.leaves) _ (subst (λ (l : List ℕ). In n l) (sym (nodes_come fan written old new some k)) own)))
    (in_levels fan 1 before count written old.pointers (levels fan before) (levels fan count) k.nodes n some (omega arith) (omega arith) (omega arith) (subst (λ (l : List ℕ). In n l) k.path there))

-- ---- a fact of all blocks

pub all_at : (P : ℕ → Type 0) (xs : List ℕ) → ((j : ℕ) → j < length xs → P (get_or xs j 0)) → All P xs
all_at P [] each = All-nil P
all_at P (x ∷ xs) each = All-cons P x xs (each 0 (omega arith)) (all_at P xs (λ j less. each (suc j) (omega arith)))

-- what holds of the blocks of the tree before and of those that are taken holds of the leaves, and of the pointer blocks
pub kept_leaves : (P : ℕ → Type 0) (fan : ℕ) (written : List ℕ) (old new : HeldTree) → MayBeWritten (length old.leaves) (length new.leaves) written → KeepsTree fan written old new
    → ((n : ℕ) → In n old.leaves → P n) → ((n : ℕ) → In n (fresh_of fan written old new) → P n) → All P new.leaves
kept_leaves P fan written old new may k was own = all_at P new.leaves (λ j less. ⊎_elim
    (λ (there : In (get_or new.leaves j 0) old.leaves). was (get_or new.leaves j 0) there)
    (λ (taken : In (get_or new.leaves j 0) (fresh_of fan written old new)). own (get_or new.leaves j 0) taken)
    (leaf_comes fan written old new may k j less))

pub kept_nodes : (P : ℕ → Type 0) (fan : ℕ) (written : List ℕ) (old new : HeldTree) → 1 ≤ fan → length old.pointers ≡ pointer_count fan (length old.leaves) → KeepsTree fan written old new
    → ((n : ℕ) → In n old.pointers → P n) → ((n : ℕ) → In n (fresh_of fan written old new) → P n) → All P new.pointers
kept_nodes P fan written old new some olds k was own = all_at P new.pointers (λ j less. ⊎_elim
    (λ (there : In (get_or new.pointers j 0) old.pointers). was (get_or new.pointers j 0) there)
    (λ (taken : In (get_or new.pointers j 0) (fresh_of fan written old new)). own (get_or new.pointers j 0) taken)
    (node_kept fan written old new some olds k (get_or new.pointers j 0) (in_at new.pointers j less)))

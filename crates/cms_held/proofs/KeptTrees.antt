-- The blocks of a tree that keeps blocks of the tree before: whose they are, and how often each stands there.
use Rattle.std.proofs.Common.{◌≡◌, ◌⊎◌, inl, inr, ⊎_elim, ℕ, zero, suc, ◌+◌, ◌*◌, ◌<◌, ◌≤◌, Bool, true, false, if◌then◌else◌, List, [], ◌∷◌, ◌++◌, length, take, drop, get_or, refl, sym, ◌∙◌, ap, subst, arith}
use Rattle.std.specs.List.{concat}
use Rattle.std.proofs.lemmas.Bool.{cases_Bool, cases_lt}
use Rattle.std.proofs.lemmas.List.{take_all}
use Rattle.cms_fields.specs.Numbers.{up}
use Rattle.cms_model.specs.Lists.{In, holds, times}
use Rattle.cms_model.specs.SharedTrees.{fresh_on, is_kept, MayBeWritten}
use Rattle.cms_model.specs.SharedTimes.{came, gone, without}
use Rattle.cms_model.specs.Sizes.{levels, pointer_count}
use Rattle.cms_model.specs.Trees.{Form, Image}
use Rattle.cms_model.proofs.Members.{In-either, In-left, In-right}
use Rattle.cms_model.proofs.Repeats.{in_from, in_held, times_append}
use Rattle.cms_model.proofs.SharedTimes.{leaves_times, shared_times}
use Rattle.cms_tree.specs.Paths.{levels_of, numbered, path_levels, paths}
use Rattle.cms_tree.proofs.Own.{in_at}
use Rattle.cms_tree.proofs.Paths.{path_is_whole, path_takes_first}
use Rattle.cms_held.specs.HeldVolumes.{HeldTree}
use Rattle.cms_held.specs.SharedBlocks.{fresh_of, levels_in, released_of}
use Rattle.cms_held.specs.SharedTrees.{HasShape, SharesTree, StandsByLevels}
use Rattle.cms_held.proofs.MapShares.{in_drop, in_levels}
use Rattle.cms_held.proofs.SharedTrees.{nodes_joined}
use Rattle.cms_held.proofs.SharedWrites.{paths_back}
use Rattle.cms_held.specs.Allotments.{KeepsTree}
use Rattle.cms_model.proofs.WrittenBlocks.{leaf_written}

clash : true ≡ false → ⊥
clash e = cc

-- ---- whose they are

item_or_zero : (xs : List ℕ) (k : ℕ) → In (get_or xs k 0) xs ⊎ (get_or xs k 0 ≡ 0)
item_or_zero [] k = inr refl
item_or_zero (x ∷ xs) zero = inl (inl refl)
item_or_zero (x ∷ xs) (suc k) = ⊎_elim (λ (there : In (get_or xs k 0) xs). inl (inr there)) (λ (none : get_or xs k 0 ≡ 0). inr none) (item_or_zero xs k)

-- one of the tree before, or a fresh one, or none
abbrev Comes : ℕ → List ℕ → List ℕ → Type 0
Comes n olds fresh = In n olds ⊎ (In n fresh ⊎ (n ≡ 0))

chosen : (b : Bool) (tier fresh : List ℕ) (j k n : ℕ) → n ≡ (if b then get_or tier j 0 else get_or fresh k 0) → Comes n tier fresh
chosen true tier fresh j k n is = ⊎_elim (λ (there : In (get_or tier j 0) tier). inl (subst (λ (m : ℕ). In m tier) (sym is) there)) (λ (none : get_or tier j 0 ≡ 0). inr (inr (is ∙ none))) (item_or_zero tier j)
chosen false tier fresh j k n is = ⊎_elim (λ (there : In (get_or fresh k 0) fresh). inr (inl (subst (λ (m : ℕ). In m fresh) (sym is) there))) (λ (none : get_or fresh k 0 ≡ 0). inr (inr (is ∙ none))) (item_or_zero fresh k)

in_numbered : (had : Bool) (size before count : ℕ) (written tier fresh : List ℕ) (k n : ℕ) → In n (numbered had size before count written tier fresh k) → Comes n tier fresh
unfolding numbered
in_numbered had size before count written tier fresh zero n there = absurd there
in_numbered had size before count written tier fresh (suc j) n there =
    let kept = is_kept had size before count written j in
    let taken = fresh_on had size before count written j in
    ⊎_elim
    (λ (front : In n (numbered had size before count written tier fresh j)). in_numbered had size before count written tier fresh j n front)
    (λ (last : In n ((if kept then get_or tier j 0 else get_or fresh taken 0) ∷ [])). ⊎_elim
    (λ (is : n ≡ (if kept then get_or tier j 0 else get_or fresh taken 0)). chosen kept tier fresh j taken n is)
    (λ (none : ⊥). absurd none) last)
    (In-either n (numbered had size before count written tier fresh j) ((if kept then get_or tier j 0 else get_or fresh taken 0) ∷ []) there)

later_fresh : (n m : ℕ) (olds fresh : List ℕ) → Comes n olds (drop m fresh) → Comes n olds fresh
later_fresh n m olds fresh c = ⊎_elim (λ (old : In n olds). inl old) (λ more. ⊎_elim (λ (there : In n (drop m fresh)). inr (inl (in_drop m fresh n there))) (λ (none : n ≡ 0). inr (inr none)) more) c

more_olds : (n : ℕ) (old olds fresh : List ℕ) → Comes n olds fresh → Comes n (old ++ olds) fresh
more_olds n old olds fresh c = ⊎_elim (λ (there : In n olds). inl (In-right n old olds there)) (λ more. inr more) c

in_paths : (fan size before count : ℕ) (written : List ℕ) (olds : List (List ℕ)) (k : ℕ) (fresh : List ℕ) (n : ℕ) → In n (concat (paths fan size before count written olds k fresh)) → Comes n (concat olds) fresh
unfolding paths
in_paths fan size before count written [] zero fresh n there = absurd there
in_paths fan size before count written (old ∷ olds) zero fresh n there = absurd there
in_paths fan size before count written [] (suc k) fresh n there =
    let wide = size * fan in
    let taken = fresh_on false wide before count written (up count wide) in
    let tier = numbered false wide before count written [] fresh (up count wide) in
    let rest = paths fan wide before count written [] k (drop taken fresh) in
    ⊎_elim
    (λ (here : In n tier). in_numbered false wide before count written [] fresh (up count wide) n here)
    (λ (more : In n (concat rest)). later_fresh n taken [] fresh (in_paths fan wide before count written [] k (drop taken fresh) n more))
    (In-either n tier (concat rest) there)
in_paths fan size before count written (old ∷ olds) (suc k) fresh n there =
    let wide = size * fan in
    let taken = fresh_on true wide before count written (up count wide) in
    let tier = numbered true wide before count written old fresh (up count wide) in
    let rest = paths fan wide before count written olds k (drop taken fresh) in
    ⊎_elim
    (λ (here : In n tier). ⊎_elim (λ (was : In n old). inl (In-left n old (concat olds) was)) (λ more. inr more) (in_numbered true wide before count written old fresh (up count wide) n here))
    (λ (more : In n (concat rest)). more_olds n old (concat olds) fresh (later_fresh n taken (concat olds) fresh (in_paths fan wide before count written olds k (drop taken fresh) n more)))
    (In-either n tier (concat rest) there)

pub nodes_are : (fan : ℕ) (written : List ℕ) (old new : HeldTree) → 1 ≤ fan → KeepsTree fan written old new → length new.pointers ≡ pointer_count fan (length new.leaves)
nodes_are fan written old new some k = ap length k.path ∙ path_is_whole fan (length old.leaves) (length new.leaves) old.pointers written k.nodes some

-- its levels are those of the path
pub levels_are : (fan : ℕ) (written : List ℕ) (old new : HeldTree) (k : KeepsTree fan written old new) → levels_in fan new ≡ path_levels fan (length old.leaves) old.pointers (length new.leaves) written k.nodes
levels_are fan written old new k =
    ap (levels_of fan 1 (length new.leaves) (levels fan (length new.leaves))) k.path ∙ paths_back fan 1 (length old.leaves) (length new.leaves) written (levels_in fan old) (levels fan (length new.leaves)) k.nodes

-- the fresh pointer blocks are those that come
pub nodes_come : (fan : ℕ) (written : List ℕ) (old new : HeldTree) → 1 ≤ fan → (k : KeepsTree fan written old new)
    → came fan 1 (length old.leaves) (length new.leaves) written (levels_in fan old) (levels_in fan new) ≡ k.nodes
nodes_come fan written old new some k =
    let count = k.count in
    ap (came fan 1 (length old.leaves) (length new.leaves) written (levels_in fan old)) (levels_are fan written old new k)
    ∙ (path_takes_first fan (length old.leaves) (length new.leaves) old.pointers written k.nodes some (omega arith)
    ∙ (ap (λ (n : ℕ). take n k.nodes) (sym count) ∙ take_all (length k.nodes) k.nodes (omega arith)))

-- a pointer block is one of the tree before, or is taken
pub node_comes : (fan : ℕ) (written : List ℕ) (old new : HeldTree) → 1 ≤ fan → KeepsTree fan written old new → (n : ℕ) → In n new.pointers
    → In n old.pointers ⊎ (In n (fresh_of fan written old new) ⊎ (n ≡ 0))
node_comes fan written old new some k n there =
    let before = length old.leaves in
    let count = length new.leaves in
    let leaves = without (is_kept true 1 before count written) 0 new.leaves in
    let nodes = came fan 1 before count written (levels_in fan old) (levels_in fan new) in
    ⊎_elim
    (λ (was : In n (concat (levels_in fan old))). inl (in_levels fan 1 before (levels fan before) old.pointers n was))
    (λ more. ⊎_elim
    (λ (fresh : In n k.nodes). inr (inl (In-right n leaves nodes (subst (λ (l : List ℕ). In n l) (sym (nodes_come fan written old new some k)) fresh))))
    (λ (none : n ≡ 0). inr (inr none)) more)
    (in_paths fan 1 before count written (levels_in fan old) (levels fan count) k.nodes n (subst (λ (l : List ℕ). In n l) k.path there))

without_has : (test : ℕ → Bool) (k : ℕ) (xs : List ℕ) (j : ℕ) → j < length xs → test (k + j) ≡ false → In (get_or xs j 0) (without test k xs)
unfolding without
without_has test k [] j less off = absurd (omega arith)
without_has test k (x ∷ xs) zero less off = let z : k + 0 ≡ k = omega arith in let here : test k ≡ false = ap test (sym z) ∙ off in rw here (inl refl)
without_has test k (x ∷ xs) (suc j) less off =
    let e : suc k + j ≡ k + suc j = omega arith in
    go (test k) (without_has test (suc k) xs j (omega arith) (ap test e ∙ off))
  where
    go : (b : Bool) → In (get_or xs j 0) (without test (suc k) xs) → In (get_or xs j 0) (if b then without test (suc k) xs else x ∷ without test (suc k) xs)
    go true there = there
    go false there = inr there

-- a data block is one of the tree before, or is taken
pub leaf_comes : (fan : ℕ) (written : List ℕ) (old new : HeldTree) → MayBeWritten (length old.leaves) (length new.leaves) written → KeepsTree fan written old new
    → (j : ℕ) → j < length new.leaves → In (get_or new.leaves j 0) old.leaves ⊎ In (get_or new.leaves j 0) (fresh_of fan written old new)
leaf_comes fan written old new may k j less =
    let before = length old.leaves in
    let count = length new.leaves in
    let test = is_kept true 1 before count written in
    let nodes = came fan 1 before count written (levels_in fan old) (levels_in fan new) in
    let z : j ≡ 0 + j = omega arith in
    ⊎_elim
    (λ (is : holds written j ≡ true). inr (In-left (get_or new.leaves j 0) (without test 0 new.leaves) nodes
    (without_has test 0 new.leaves j less (ap test (sym z) ∙ leaf_written before count j written less (in_from j written is)))))
    (λ (no : holds written j ≡ false).
    let isnt : In j written → ⊥ = λ there. clash (sym (in_held j written there) ∙ no) in
    let had : j < before = ⊎_elim (λ (lt : j < before). lt) (λ (ge : before ≤ j). absurd (isnt (may.grown j ge less))) (cases_lt j before) in
    inl (subst (λ (n : ℕ). In n old.leaves) (sym (k.leaves j less isnt)) (in_at old.leaves j had)))
    (cases_Bool (holds written j))

-- ---- how often each stands there

without_times : (test : ℕ → Bool) (k n : ℕ) (xs : List ℕ) → times n (without test k xs) ≤ times n xs
unfolding without times
without_times test k n [] = omega arith
without_times test k n (x ∷ xs) = go (test k) (without_times test (suc k) n xs)
  where
    go : (b : Bool) → times n (without test (suc k) xs) ≤ times n xs → times n (if b then without test (suc k) xs else x ∷ without test (suc k) xs) ≤ times n (x ∷ xs)
    go true h = omega arith
    go false h = omega arith

gone_times : (fan size before count : ℕ) (written : List ℕ) (olds tiers : List (List ℕ)) (n : ℕ) → times n (gone fan size before count written olds tiers) ≤ times n (concat olds)
unfolding gone times
gone_times fan size before count written [] tiers n = omega arith
gone_times fan size before count written (old ∷ olds) [] n =
    let rest = gone_times fan size before count written olds [] n in
    omega (arith, times_append n old (gone fan size before count written olds []), times_append n old (concat olds))
gone_times fan size before count written (old ∷ olds) (tier ∷ more) n =
    let test = is_kept true (size * fan) before count written in
    let here = without_times test 0 n old in
    let rest = gone_times fan (size * fan) before count written olds more n in
    omega (arith, times_append n (without test 0 old) (gone fan (size * fan) before count written olds more), times_append n old (concat olds))

-- the tree after has the blocks of the tree before, without those that are given back and with those that are taken
pub record TreeTimes (fan : ℕ) (written : List ℕ) (old new : HeldTree) (n : ℕ) : Type 0 where
  pub sum : times n new.leaves + times n new.pointers + times n (released_of fan written old new) ≡ times n old.leaves + times n old.pointers + times n (fresh_of fan written old new)
  pub part : times n (released_of fan written old new) ≤ times n old.leaves + times n old.pointers

pub tree_times : (form : Form) (before later : Image) (written : List ℕ) (old new : HeldTree) → 1 ≤ form.fan → HasShape form.fan old → HasShape form.fan new → StandsByLevels form before old
    → SharesTree form before later written old new → (n : ℕ) → TreeTimes form.fan written old new n
tree_times form before later written old new some old_shape shape stands shares n =
    let fan = form.fan in
    let o = length old.leaves in
    let c = length new.leaves in
    let test = is_kept true 1 o c written in
    let olds = levels_in fan old in
    let news = levels_in fan new in
    let leaves = leaves_times old.leaves new.leaves written n shares.leaves in
    let nodes = shared_times form before later old.leaves new.leaves written olds news _ n some stands shares.pointers in
    let a : times n (concat olds) ≡ times n old.pointers = ap (times n) (nodes_joined fan old old_shape) in
    let b : times n (concat news) ≡ times n new.pointers = ap (times n) (nodes_joined fan new shape) in
    let few = without_times test 0 n old.leaves in
    let few' = gone_times fan 1 o c written olds news n in
    let r = times_append n (without test 0 old.leaves) (gone fan 1 o c written olds news) in
    let f = times_append n (without test 0 new.leaves) (came fan 1 o c written olds news) in
    record { sum = omega arith; part = omega arith }

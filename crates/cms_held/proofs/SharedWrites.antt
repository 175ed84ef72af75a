-- What is written of a tree of which blocks are kept is shared with the tree before.
use Rattle.std.proofs.Common.{◌≡◌, inl, inr, ⊎_elim, ℕ, zero, suc, ◌+◌, ◌-◌, ◌*◌, ◌/◌, ◌^◌, ◌<◌, ◌≤◌, Bool, true, false, if◌then◌else◌, List, [], ◌∷◌, ◌++◌, length, map, take, drop, get_or, replicate, All, refl, sym, ◌∙◌, ap, subst, arith}
use Rattle.std.specs.List.{concat}
use Rattle.std.specs.List.Sorted.{IsStrictlyIncreasing}
use Rattle.std.proofs.lemmas.Bool.{cases_lt, cases_eq}
use Rattle.std.proofs.lemmas.List.{length-take, map-append}
use Rattle.std.proofs.lemmas.List.Elements.{All-nil, All-cons, All-head, All-tail, All-take, All-drop}
use Rattle.std.proofs.Math.Seq.{drop-append_seam, take-append_seam}
use Rattle.cms_journal.proofs.Sizes.{block_bounds}
use Rattle.cms_names.specs.declared.name.Format.TheVariants.{F}
use Rattle.cms_fields.specs.Numbers.{up}
use Rattle.cms_model.specs.LawsTrees.{Cell, FitsCell, cell_bytes}
use Rattle.cms_model.specs.Lists.{In}
use Rattle.cms_model.specs.Settled.{Write}
use Rattle.cms_model.specs.SharedTrees.{fresh_on, is_kept, MayBeWritten}
use Rattle.cms_model.specs.SharedTiers.{Names, Shared, group}
use Rattle.cms_model.specs.SharedTimes.{came, without}
use Rattle.cms_model.specs.Sizes.{levels}
use Rattle.cms_model.specs.Trees.{Form, Image, form_of, pointers}
use Rattle.cms_model.proofs.Pointers.{pointers_read}
use Rattle.cms_model.proofs.SharedTiers.{never_kept}
use Rattle.cms_tree.specs.Builds.{Child, cell_of, marked, node_bytes}
use Rattle.cms_tree.specs.Paths.{PointFresh, levels_of, numbered, path_levels, paths}
use Rattle.cms_tree.proofs.Own.{in_at}
use Rattle.cms_tree.proofs.Paths.{length-numbered, path_is_shared}
use Rattle.cms_held.specs.SharedBlocks.{levels_in}
use Rattle.cms_held.specs.SharedWrites.{FreshAreWritten, WrittenIsShared, fresh_writes, shared_node_writes, tier_writes}
use Rattle.cms_held.specs.Systems.{HasWritten, leaf_writes}
use Rattle.cms_held.proofs.PiecesWritten.{has_front, has_behind}
use Rattle.cms_model.proofs.WrittenBlocks.{behind_higher, leaf_kept, leaf_written, rest_ascends}

clash : true ≡ false → ⊥
clash e = cc

-- ---- the blocks that are written

tier_blocks : (bsize fan : ℕ) (kept : ℕ → Bool) (below : List ℕ) (k : ℕ) (tier : List ℕ) → map (λ w. w.block) (tier_writes bsize fan kept below k tier) ≡ without kept k tier
unfolding tier_writes without
tier_blocks bsize fan kept below k [] = refl
tier_blocks bsize fan kept below k (n ∷ ns) = go (kept k) (tier_blocks bsize fan kept below (suc k) ns)
  where
    go : (b : Bool) → map (λ w. w.block) (tier_writes bsize fan kept below (suc k) ns) ≡ without kept (suc k) ns
        → map (λ w. w.block) (if b then tier_writes bsize fan kept below (suc k) ns
        else record { block = n; bytes = node_bytes bsize 4 (marked (group fan below k) []) } ∷ tier_writes bsize fan kept below (suc k) ns)
        ≡ (if b then without kept (suc k) ns else n ∷ without kept (suc k) ns)
    go true rest = rest
    go false rest = ap (λ (l : List ℕ). n ∷ l) rest

node_blocks : (bsize fan size before count : ℕ) (written : List ℕ) (olds : List (List ℕ)) (below : List ℕ) (tiers : List (List ℕ))
    → map (λ w. w.block) (fresh_writes bsize fan size before count written olds below tiers) ≡ came fan size before count written olds tiers
unfolding fresh_writes came
node_blocks bsize fan size before count written [] below [] = refl
node_blocks bsize fan size before count written (old ∷ olds) below [] = refl
node_blocks bsize fan size before count written [] below (tier ∷ more) =
    let kept = is_kept false (size * fan) before count written in
    map-append (λ (w : Write). w.block) (tier_writes bsize fan kept below 0 tier) (fresh_writes bsize fan (size * fan) before count written [] tier more)
    ∙ (ap (λ (l : List ℕ). l ++ map (λ (w : Write). w.block) (fresh_writes bsize fan (size * fan) before count written [] tier more)) (tier_blocks bsize fan kept below 0 tier)
    ∙ ap (λ (l : List ℕ). without kept 0 tier ++ l) (node_blocks bsize fan (size * fan) before count written [] tier more))
node_blocks bsize fan size before count written (old ∷ olds) below (tier ∷ more) =
    let kept = is_kept true (size * fan) before count written in
    map-append (λ (w : Write). w.block) (tier_writes bsize fan kept below 0 tier) (fresh_writes bsize fan (size * fan) before count written olds tier more)
    ∙ (ap (λ (l : List ℕ). l ++ map (λ (w : Write). w.block) (fresh_writes bsize fan (size * fan) before count written olds tier more)) (tier_blocks bsize fan kept below 0 tier)
    ∙ ap (λ (l : List ℕ). without kept 0 tier ++ l) (node_blocks bsize fan (size * fan) before count written olds tier more))

leaf_blocks : (leaves : List ℕ) (piece : ℕ → List ℕ) (written : List ℕ) → map (λ w. w.block) (leaf_writes leaves piece written) ≡ map (λ j. get_or leaves j 0) written
leaf_blocks leaves piece [] = refl
leaf_blocks leaves piece (j ∷ js) = ap (λ (l : List ℕ). get_or leaves j 0 ∷ l) (leaf_blocks leaves piece js)

-- of a list from a place on, the items at the ascending places at which a test doesn't hold
picked : (test : ℕ → Bool) (f : ℕ → ℕ) (k : ℕ) (xs ws : List ℕ) → ((j : ℕ) → j < length xs → get_or xs j 0 ≡ f (k + j)) → IsStrictlyIncreasing ws → ((w : ℕ) → In w ws → (k ≤ w) × (w < k + length xs))
    → ((w : ℕ) → In w ws → test w ≡ false) → ((j : ℕ) → k ≤ j → j < k + length xs → (In j ws → ⊥) → test j ≡ true) → without test k xs ≡ map f ws
unfolding without
picked test f k [] [] at ascend within off on = refl
picked test f k [] (w ∷ ws) at ascend within off on = absurd (let r = within w (inl refl) in let low = r.0 in let high = r.1 in omega arith)
picked test f k (x ∷ xs) [] at ascend within off on =
    let here = on k (omega arith) (omega arith) (λ there. there) in
    rw here (picked test f (suc k) xs [] (next test f k x xs at) ascend (λ w there. absurd there) (λ w there. absurd there) (λ j low high isnt. on j (omega arith) (omega arith) isnt))
  where
    next : (test : ℕ → Bool) (f : ℕ → ℕ) (k x : ℕ) (xs : List ℕ) → ((j : ℕ) → j < suc (length xs) → get_or (x ∷ xs) j 0 ≡ f (k + j)) → (j : ℕ) → j < length xs → get_or xs j 0 ≡ f (suc k + j)
    next test f k x xs at j less = let e : k + suc j ≡ suc k + j = omega arith in at (suc j) (omega arith) ∙ ap f e
picked test f k (x ∷ xs) (w ∷ ws) at ascend within off on = ⊎_elim
    (λ (same : w ≡ k).
    let here : test k ≡ false = subst (λ (n : ℕ). test n ≡ false) same (off w (inl refl)) in
    let z : k + 0 ≡ w = omega arith in
    let first : x ≡ f w = at 0 (omega arith) ∙ ap f z in
    let rest = picked test f (suc k) xs ws (next test f k x xs at) (rest_ascends w ws ascend)
    (λ v there. let r = within v (inr there) in let high = r.1 in let later = behind_higher w ws ascend v there in (omega arith, omega arith))
    (λ v there. off v (inr there))
    (λ j low high isnt. on j (omega arith) (omega arith) (λ there. ⊎_elim (λ (is : j ≡ w). omega arith) (λ (more : In j ws). isnt more) there)) in
    rw (here, rest) (ap (λ (n : ℕ). n ∷ map f ws) first))
    (λ (other : w ≡ k → ⊥).
    let low' = (within w (inl refl)).0 in
    let past : suc k ≤ w = higher other low' in
    let all : (v : ℕ) → In v (w ∷ ws) → suc k ≤ v = λ v there. ⊎_elim (λ (is : v ≡ w). omega arith) (λ (more : In v ws). let later = behind_higher w ws ascend v more in omega arith) there in
    let here = on k (omega arith) (omega arith) (λ there. let bad = all k there in omega arith) in
    rw here (picked test f (suc k) xs (w ∷ ws) (next test f k x xs at) ascend
    (λ v there. let high = (within v there).1 in (all v there, omega arith)) off
    (λ j low high isnt. on j (omega arith) (omega arith) isnt)))
    (cases_eq w k)
  where
    higher : (w ≡ k → ⊥) → k ≤ w → suc k ≤ w
    higher other low = omega arith

    next : (test : ℕ → Bool) (f : ℕ → ℕ) (k x : ℕ) (xs : List ℕ) → ((j : ℕ) → j < suc (length xs) → get_or (x ∷ xs) j 0 ≡ f (k + j)) → (j : ℕ) → j < length xs → get_or xs j 0 ≡ f (suc k + j)
    next test f k x xs at j less = let e : k + suc j ≡ suc k + j = omega arith in at (suc j) (omega arith) ∙ ap f e

written_leaves : (before : ℕ) (leaves written : List ℕ) → MayBeWritten before (length leaves) written → without (is_kept true 1 before (length leaves) written) 0 leaves ≡ map (λ j. get_or leaves j 0) written
written_leaves before leaves written may = picked (is_kept true 1 before (length leaves) written) (λ (j : ℕ). get_or leaves j 0) 0 leaves written
    (λ j less. let e : j ≡ 0 + j = omega arith in ap (λ (n : ℕ). get_or leaves n 0) e) may.ascend
    (λ w there. let less = may.within w there in (omega arith, omega arith))
    (λ w there. leaf_written before (length leaves) w written (may.within w there) there)
    (λ j low high isnt. leaf_kept before (length leaves) j written (had j (omega arith) isnt) (omega arith) isnt)
  where
    had : (j : ℕ) → j < length leaves → (In j written → ⊥) → j < before
    had j less isnt = ⊎_elim (λ (lt : j < before). lt) (λ (ge : before ≤ j). absurd (isnt (may.grown j ge less))) (cases_lt j before)

pub fresh_are_written : FreshAreWritten
fresh_are_written bsize written old new piece may =
    let nodes = shared_node_writes bsize written old new in
    map-append (λ (w : Write). w.block) (leaf_writes new.leaves piece written) nodes
    ∙ (ap (λ (l : List ℕ). l ++ map (λ (w : Write). w.block) nodes) (leaf_blocks new.leaves piece written ∙ sym (written_leaves (length old.leaves) new.leaves written may))
    ∙ ap (λ (l : List ℕ). without (is_kept true 1 (length old.leaves) (length new.leaves) written) 0 new.leaves ++ l)
    (node_blocks bsize (bsize / 4) 1 (length old.leaves) (length new.leaves) written (levels_in (bsize / 4) old) new.leaves (levels_in (bsize / 4) new)))

-- ---- the pointers in the bytes of a block

abbrev Word : ℕ → Type 0
Word n = n < 2 ^ 32

-- the numbers as they are stored
cells : List ℕ → List Cell
cells [] = []
cells (n ∷ ns) = record { block = n; beside = [] } ∷ cells ns

cells_count : (ns : List ℕ) → length (cells ns) ≡ length ns
unfolding cells
cells_count [] = refl
cells_count (n ∷ ns) = ap suc (cells_count ns)

cells_fit : (ns : List ℕ) → All Word ns → All (FitsCell 4) (cells ns)
unfolding cells
cells_fit [] words = All-nil (FitsCell 4)
cells_fit (n ∷ ns) words = All-cons (FitsCell 4) (record { block = n; beside = [] }) (cells ns) (record { word = All-head Word n ns words; wide = refl }) (cells_fit ns (All-tail Word n ns words))

cells_name : (ns : List ℕ) → map (λ (c : Cell). c.block) (cells ns) ≡ ns
unfolding cells
cells_name [] = refl
cells_name (n ∷ ns) = ap (λ (l : List ℕ). n ∷ l) (cells_name ns)

marked_cells : (ns : List ℕ) → concat (map (λ (child : Child). cell_bytes (cell_of 4 child)) (marked ns [])) ≡ concat (map cell_bytes (cells ns))
unfolding marked cells
marked_cells [] = refl
marked_cells (n ∷ ns) = ap (λ (l : List ℕ). cell_bytes (record { block = n; beside = [] }) ++ l) (marked_cells ns)

names_group : (bsize fan : ℕ) (ns : List ℕ) → length ns ≤ fan → All Word ns
    → pointers fan 4 (node_bytes bsize 4 (marked ns [])) ≡ ns ++ pointers (fan - length ns) 4 (replicate (bsize - length (marked ns []) * 4) 0)
unfolding node_bytes
names_group bsize fan ns few words =
    let zeros : List ℕ = replicate (bsize - length (marked ns []) * 4) 0 in
    let more = fan - length ns in
    let count : length (cells ns) + more ≡ fan = (let e = cells_count ns in omega arith) in
    ap (λ (l : List ℕ). pointers fan 4 (l ++ zeros)) (marked_cells ns)
    ∙ (ap (λ (n : ℕ). pointers n 4 (concat (map cell_bytes (cells ns)) ++ zeros)) (sym count)
    ∙ (pointers_read 4 more (cells ns) zeros (cells_fit ns words) ∙ ap (λ (l : List ℕ). l ++ pointers more 4 zeros) (cells_name ns)))

-- ---- the pointer blocks that are written point to their groups

has_tier : (image : Image) (bsize fan : ℕ) (kept : ℕ → Bool) (below : List ℕ) (k : ℕ) (tier : List ℕ) → HasWritten image (tier_writes bsize fan kept below k tier)
    → (j : ℕ) → j < length tier → kept (k + j) ≡ false → image (get_or tier j 0) ≡ node_bytes bsize 4 (marked (group fan below (k + j)) [])
unfolding tier_writes
has_tier image bsize fan kept below k [] has j less off = absurd (omega arith)
has_tier image bsize fan kept below k (n ∷ ns) has zero less off =
    let z : k + 0 ≡ k = omega arith in
    let off' : kept k ≡ false = ap kept (sym z) ∙ off in
    let w : HasWritten image (record { block = n; bytes = node_bytes bsize 4 (marked (group fan below k) []) } ∷ tier_writes bsize fan kept below (suc k) ns) = rw off' at has in
    w.0 ∙ ap (λ (i : ℕ). node_bytes bsize 4 (marked (group fan below i) [])) (sym z)
has_tier image bsize fan kept below k (n ∷ ns) has (suc j) less off =
    let e : suc k + j ≡ k + suc j = omega arith in
    let rest : HasWritten image (tier_writes bsize fan kept below (suc k) ns) = behind (kept k) has in
    has_tier image bsize fan kept below (suc k) ns rest j (omega arith) (ap kept e ∙ off) ∙ ap (λ (i : ℕ). node_bytes bsize 4 (marked (group fan below i) [])) e
  where
    behind : (b : Bool) → HasWritten image (if b then tier_writes bsize fan kept below (suc k) ns
        else record { block = n; bytes = node_bytes bsize 4 (marked (group fan below k) []) } ∷ tier_writes bsize fan kept below (suc k) ns)
        → HasWritten image (tier_writes bsize fan kept below (suc k) ns)
    behind true h = h
    behind false h = h.1

tier_names : (form : Form) (image : Image) (bsize : ℕ) (kept : ℕ → Bool) (below tier : List ℕ) → form.stride ≡ 4 → All Word below → HasWritten image (tier_writes bsize form.fan kept below 0 tier)
    → (j : ℕ) → j < length tier → kept j ≡ false → Names form image (get_or tier j 0) (group form.fan below j)
tier_names form image bsize kept below tier four words has j less off =
    let own = group form.fan below j in
    let e : 0 + j ≡ j = omega arith in
    let here : image (get_or tier j 0) ≡ node_bytes bsize 4 (marked own []) = has_tier image bsize form.fan kept below 0 tier has j less (ap kept e ∙ off) ∙ ap (λ (i : ℕ). node_bytes bsize 4 (marked (group form.fan below i) [])) e in
    let few : length own ≤ form.fan = omega (arith, length-take form.fan (drop (j * form.fan) below)) in
    let own_words : All Word own = All-take Word form.fan (drop (j * form.fan) below) (All-drop Word (j * form.fan) below words) in (
      pointers (form.fan - length own) 4 (replicate (bsize - length (marked own []) * 4) 0),
      ap (λ (n : ℕ). pointers form.fan n (image (get_or tier j 0))) four ∙ (ap (pointers form.fan 4) here ∙ names_group bsize form.fan own few own_words),
    )

-- those of a level, and of those behind it
words_left : (xs ys : List ℕ) → All Word (xs ++ ys) → All Word xs
words_left [] ys words = All-nil Word
words_left (x ∷ xs) ys words = All-cons Word x xs (All-head Word x (xs ++ ys) words) (words_left xs ys (All-tail Word x (xs ++ ys) words))

words_right : (xs ys : List ℕ) → All Word (xs ++ ys) → All Word ys
words_right [] ys words = words
words_right (x ∷ xs) ys words = words_right xs ys (All-tail Word x (xs ++ ys) words)

point_fresh : (form : Form) (image : Image) (bsize size before count : ℕ) (written : List ℕ) (olds : List (List ℕ)) (below : List ℕ) (tiers : List (List ℕ)) → form.stride ≡ 4
    → All Word below → All Word (concat tiers) → HasWritten image (fresh_writes bsize form.fan size before count written olds below tiers) → PointFresh form image size before count written olds below tiers
unfolding fresh_writes
point_fresh form image bsize size before count written olds below [] four words more_words has = tt
point_fresh form image bsize size before count written [] below (tier ∷ more) four words more_words has =
    let kept = is_kept false (size * form.fan) before count written in
    let here = has_front image (tier_writes bsize form.fan kept below 0 tier) (fresh_writes bsize form.fan (size * form.fan) before count written [] tier more) has in
    let rest = has_behind image (tier_writes bsize form.fan kept below 0 tier) (fresh_writes bsize form.fan (size * form.fan) before count written [] tier more) has in (
      λ j less. tier_names form image bsize kept below tier four words here j less (never_kept (size * form.fan) before count written j),
      point_fresh form image bsize (size * form.fan) before count written [] tier more four (words_left tier (concat more) more_words) (words_right tier (concat more) more_words) rest,
    )
point_fresh form image bsize size before count written (old ∷ olds) below (tier ∷ more) four words more_words has =
    let kept = is_kept true (size * form.fan) before count written in
    let here = has_front image (tier_writes bsize form.fan kept below 0 tier) (fresh_writes bsize form.fan (size * form.fan) before count written olds tier more) has in
    let rest = has_behind image (tier_writes bsize form.fan kept below 0 tier) (fresh_writes bsize form.fan (size * form.fan) before count written olds tier more) has in (
      λ j less off. tier_names form image bsize kept below tier four words here j less off,
      point_fresh form image bsize (size * form.fan) before count written olds tier more four (words_left tier (concat more) more_words) (words_right tier (concat more) more_words) rest,
    )

-- ---- the levels of a path

level_back : (fan size count k : ℕ) (tier : List ℕ) (rest : List (List ℕ)) → length tier ≡ up count (size * fan) → levels_of fan (size * fan) count k (concat rest) ≡ rest
    → levels_of fan size count (suc k) (tier ++ concat rest) ≡ tier ∷ rest
unfolding levels_of
level_back fan size count k tier rest long deeper =
    let m = up count (size * fan) in
    let front : take m (tier ++ concat rest) ≡ tier = subst (λ (n : ℕ). take n (tier ++ concat rest) ≡ tier) long (take-append_seam tier (concat rest)) in
    let behind : drop m (tier ++ concat rest) ≡ concat rest = subst (λ (n : ℕ). drop n (tier ++ concat rest) ≡ concat rest) long (drop-append_seam tier (concat rest)) in
    rw (front, behind) (ap (λ (l : List (List ℕ)). tier ∷ l) deeper)

pub paths_back : (fan size before count : ℕ) (written : List ℕ) (olds : List (List ℕ)) (k : ℕ) (fresh : List ℕ)
    → levels_of fan size count k (concat (paths fan size before count written olds k fresh)) ≡ paths fan size before count written olds k fresh
unfolding levels_of paths
paths_back fan size before count written [] zero fresh = refl
paths_back fan size before count written (old ∷ olds) zero fresh = refl
paths_back fan size before count written [] (suc k) fresh =
    let wide = size * fan in
    let m = up count wide in
    let tier = numbered false wide before count written [] fresh m in
    let rest = paths fan wide before count written [] k (drop (fresh_on false wide before count written m) fresh) in
    level_back fan size count k tier rest (length-numbered false wide before count written [] fresh m)
    (paths_back fan wide before count written [] k (drop (fresh_on false wide before count written m) fresh))
paths_back fan size before count written (old ∷ olds) (suc k) fresh =
    let wide = size * fan in
    let m = up count wide in
    let tier = numbered true wide before count written old fresh m in
    let rest = paths fan wide before count written olds k (drop (fresh_on true wide before count written m) fresh) in
    level_back fan size count k tier rest (length-numbered true wide before count written old fresh m)
    (paths_back fan wide before count written olds k (drop (fresh_on true wide before count written m) fresh))

-- ---- the whole

has_leaf : (image : Image) (leaves : List ℕ) (piece : ℕ → List ℕ) (written : List ℕ) → HasWritten image (leaf_writes leaves piece written) → (j : ℕ) → In j written → image (get_or leaves j 0) ≡ piece j
has_leaf image leaves piece [] has j there = absurd there
has_leaf image leaves piece (w ∷ ws) has j (inl is) = ap (λ (n : ℕ). image (get_or leaves n 0)) is ∙ (has.0 ∙ ap piece (sym is))
has_leaf image leaves piece (w ∷ ws) has j (inr more) = has_leaf image leaves piece ws has.1 j more

pub written_is_shared : WrittenIsShared
written_is_shared bsize last before later written old new piece fresh w = (
  record {
    anew = λ j less there. has_leaf later new.leaves piece written w.has_leaves j there;
    had = had;
    same = λ j less isnt. ap later (w.leaves j less isnt) ∙ sym (w.same_leaves (get_or old.leaves j 0) (in_at old.leaves j (had j less isnt)));
  },
  record {
    leaves = λ j less is. w.leaves j less (λ there. clash (sym is ∙ leaf_written (length old.leaves) (length new.leaves) j written less there));
    pointers = subst (λ (l : List (List ℕ)). Shared form before later 1 (length old.leaves) (length new.leaves) written (levels_in fan old) new.leaves l) (sym levels_are)
        (path_is_shared form before later (length old.leaves) old.pointers new.leaves written fresh (omega (arith, (block_bounds bsize w.size).0)) w.old_shape.nodes w.same_nodes
        (point_fresh form later bsize 1 (length old.leaves) (length new.leaves) written (levels_in fan old) new.leaves path refl w.words (subst (All Word) w.pointers w.node_words)
        (subst (λ (l : List (List ℕ)). HasWritten later (fresh_writes bsize fan 1 (length old.leaves) (length new.leaves) written (levels_in fan old) new.leaves l)) levels_are w.has_nodes)));
  },
)
  where
    fan : ℕ
    fan = bsize / 4

    form : Form
    form = form_of bsize last F

    path : List (List ℕ)
    path = path_levels (bsize / 4) (length old.leaves) old.pointers (length new.leaves) written fresh

    levels_are : levels_in (bsize / 4) new ≡ path_levels (bsize / 4) (length old.leaves) old.pointers (length new.leaves) written fresh
    levels_are = ap (levels_of (bsize / 4) 1 (length new.leaves) (levels (bsize / 4) (length new.leaves))) w.pointers
        ∙ paths_back (bsize / 4) 1 (length old.leaves) (length new.leaves) written (levels_in (bsize / 4) old) (levels (bsize / 4) (length new.leaves)) fresh

    had : (j : ℕ) → j < length new.leaves → (In j written → ⊥) → j < length old.leaves
    had j less isnt = ⊎_elim (λ (lt : j < length old.leaves). lt) (λ (ge : length old.leaves ≤ j). absurd (isnt (w.may.grown j ge less))) (cases_lt j (length old.leaves))

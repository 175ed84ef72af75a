-- The pointer blocks of a tree that keeps some of those of the tree before.
use Rattle.std.proofs.Common.{◌≡◌, inl, inr, ⊎_elim, ℕ, zero, suc, ◌+◌, ◌-◌, ◌*◌, ◌^◌, ◌<◌, ◌≤◌, min, Bool, true, false, not, if◌then◌else◌, List, [], ◌∷◌, ◌++◌, length, take, drop, get_or, refl, sym, ◌∙◌, ap, subst, arith, append_assoc, append-nil, length-append, length-drop, take-suc, take-add, get_or-take, drop_of_length-le, mul-le-mul_right, mul-pos, pow-suc}
use Rattle.std.specs.Prelude.{◌==◌, ◌&&◌, ◌||◌, nat_le, nat_lt, slice_index}
use Rattle.std.specs.List.{concat}
use Rattle.std.specs.List.Sorted.{IsStrictlyIncreasing}
use Rattle.std.proofs.lemmas.List.{get_or_append_left, get_or_at, get_or-drop, drop_more, take_rest}
use Rattle.std.proofs.lemmas.Bool.{cases_lt, or_from, eq-eqb, ne_eqb, le-leb, lt-ltb, le-ltb, lt-leb}
use Rattle.std.proofs.Math.Nat.{pow-zero}
use Rattle.cms_fields.specs.Numbers.{up}
use Rattle.cms_model.specs.Lists.{In}
use Rattle.cms_model.specs.Trees.{Image, Form}
use Rattle.cms_model.specs.Sizes.{levels, pointers_to, pointer_count}
use Rattle.cms_model.specs.SharedTrees.{any_within, is_kept, fresh_on, fresh_to}
use Rattle.cms_model.specs.SharedTiers.{Names, Shared, SharedTier, group}
use Rattle.cms_model.specs.SharedTimes.{came, gone, without}
use Rattle.cms_model.proofs.Members.{In-either}
use Rattle.cms_model.proofs.Quotients.{up_up}
use Rattle.cms_model.proofs.Shapes.{levels_needs}
use Rattle.cms_model.proofs.SharedTrees.{within_has}
use Rattle.cms_model.proofs.SharedTiers.{lies, lies_back, kept_parts, never_kept}
use Rattle.cms_model.proofs.Exchanges.{to_few as fresh_to_few}
use Rattle.cms_model.proofs.WrittenBlocks.{rest_ascends as ascends_on}
use Rattle.cms_tree.specs.Paths.{IsRest, PathIsShared, PathIsWhole, PathTakesFirst, PathTakesNoMore, PointFresh, levels_of, numbered, paths, places_on, places_to, tree_levels}
use Rattle.cms_tree.proofs.LevelsBuilt.{up_one}
use Rattle.cms_tree.proofs.Own.{in_at}

pub clash : false ≡ true → ⊥
clash e = cc

-- ---- ascending numbers

pub ascends_drop : (n : ℕ) (xs : List ℕ) → IsStrictlyIncreasing xs → IsStrictlyIncreasing (drop n xs)
ascends_drop zero xs ascends = ascends
ascends_drop (suc n) [] ascends = ascends
ascends_drop (suc n) (x ∷ xs) ascends = ascends_drop n xs (ascends_on x xs ascends)

-- behind one of them there is none lower
pub none_from : (from to x : ℕ) (xs : List ℕ) → to ≤ x → IsStrictlyIncreasing (x ∷ xs) → any_within from to (x ∷ xs) ≡ false
unfolding any_within
none_from from to x [] high ascends = rw (le-ltb x to high) (off (nat_le from x))
  where
    off : (b : Bool) → ((b && false) || false) ≡ false
    off true = refl
    off false = refl
none_from from to x (y ∷ ys) high ascends =
    let next : x < y = ascends 0 (omega arith) in
    let more = none_from from to y ys (omega arith) (ascends_on x (y ∷ ys) ascends) in
    rw (le-ltb x to high) (or_from (nat_le from x && false) (any_within from to (y ∷ ys)) (off (nat_le from x)) more)
  where
    off : (b : Bool) → (b && false) ≡ false
    off true = refl
    off false = refl

-- those below are passed
pub passes : (from to at : ℕ) (xs : List ℕ) → at < length xs → get_or xs at 0 < from → any_within from to (drop at xs) ≡ any_within from to (drop (at + 1) xs)
unfolding any_within
passes from to at xs within low =
    let here : drop at xs ≡ get_or xs at 0 ∷ drop (at + 1) xs = drop_more xs at 0 within in
    rw (here, lt-leb from (get_or xs at 0) low) refl

-- the rest from the first that isn't below a number
pub rest_is : (low at x : ℕ) (xs : List ℕ) → IsStrictlyIncreasing xs → x ≡ get_or xs at 0 → low ≤ x
    → ((from to : ℕ) → low ≤ from → any_within from to xs ≡ any_within from to (drop at xs)) → IsRest low xs (take (length xs - at) (drop at xs))
rest_is low at x xs ascends is high same = subst (IsRest low xs) (sym (take_rest xs at)) (record {
  same = same;
  ascends = ascends_drop at xs ascends;
  first = λ some. let here : at + 0 ≡ at = omega arith in let first = get_or-drop at xs 0 0 ∙ ap (λ (i : ℕ). get_or xs i 0) here ∙ sym is in subst (λ (n : ℕ). low ≤ n) (sym first) high;
})

pub rest_is_none : (low at : ℕ) (xs : List ℕ) → length xs ≤ at → ((from to : ℕ) → low ≤ from → any_within from to xs ≡ any_within from to (drop at xs))
    → IsRest low xs (take (length xs - length xs) (drop (length xs) xs))
rest_is_none low at xs past same =
    let none : drop at xs ≡ [] = drop_of_length-le xs past in
    let none' : drop (length xs) xs ≡ [] = drop_of_length-le xs (omega arith) in
    let rest : take (length xs - length xs) (drop (length xs) xs) ≡ [] = take_rest xs (length xs) ∙ none' in
    subst (IsRest low xs) (sym rest) (record {
      same = λ from to above. same from to above ∙ ap (any_within from to) none;
      ascends = λ j inside. absurd (omega arith);
      first = λ some. absurd (omega arith);
    })

-- the first tells
pub first_tells : (from to : ℕ) (xs : List ℕ) → IsStrictlyIncreasing xs → (1 ≤ length xs → from ≤ get_or xs 0 0) → (any_within from to xs ≡ true → 1 ≤ length xs)
    × ((1 ≤ length xs) → (to ≤ get_or xs 0 0 → any_within from to xs ≡ false) × (get_or xs 0 0 < to → any_within from to xs ≡ true))
unfolding any_within
first_tells from to [] ascends low = (λ is. absurd (clash is), λ some. absurd (omega arith))
first_tells from to (x ∷ xs) ascends low = (λ is. omega arith, λ some. (λ high. none_from from to x xs high ascends, λ less. within_has from to x (x ∷ xs) (inl refl) (low some) less))

-- the first of them decides
pub first_decides : (from to : ℕ) (xs : List ℕ) → IsStrictlyIncreasing xs → (1 ≤ length xs → from ≤ get_or xs 0 0) → 1 ≤ length xs → nat_lt (get_or xs 0 0) to ≡ any_within from to xs
first_decides from to xs ascends low some =
    let tells = (first_tells from to xs ascends low).1 some in
    ⊎_elim (λ (less : get_or xs 0 0 < to). lt-ltb (get_or xs 0 0) to less ∙ sym (tells.1 less))
    (λ (high : to ≤ get_or xs 0 0). le-ltb (get_or xs 0 0) to high ∙ sym (tells.0 high)) (cases_lt (get_or xs 0 0) to)

pub none_below : (from to : ℕ) (xs : List ℕ) → length xs ≡ 0 → false ≡ any_within from to xs
unfolding any_within
none_below from to [] none = refl
none_below from to (x ∷ xs) none = absurd (omega arith)

-- the rest of them tells the same of a pointer block from there on
pub kept_by_rest : (had : Bool) (size before count : ℕ) (written rest : List ℕ) (j : ℕ) → any_within (j * size) (min ((j + 1) * size) count) written ≡ any_within (j * size) (min ((j + 1) * size) count) rest
    → is_kept had size before count written j ≡ is_kept had size before count rest j
unfolding is_kept
kept_by_rest had size before count written rest j same = rw same refl

-- ---- a level

pub length-numbered : (had : Bool) (size before count : ℕ) (written tier fresh : List ℕ) (n : ℕ) → length (numbered had size before count written tier fresh n) ≡ n
unfolding numbered
length-numbered had size before count written tier fresh zero = refl
length-numbered had size before count written tier fresh (suc n) =
    let h = length-numbered had size before count written tier fresh n in
    length-append (numbered had size before count written tier fresh n) ((if is_kept had size before count written n then slice_index tier n else slice_index fresh (fresh_on had size before count written n)) ∷ [])
    ∙ (omega arith)

pub get-numbered : (had : Bool) (size before count : ℕ) (written tier fresh : List ℕ) (n j : ℕ) → j < n
    → get_or (numbered had size before count written tier fresh n) j 0 ≡ (if is_kept had size before count written j then slice_index tier j else slice_index fresh (fresh_on had size before count written j))
unfolding numbered
get-numbered had size before count written tier fresh zero j less = absurd (omega arith)
get-numbered had size before count written tier fresh (suc n) j less =
    let front = numbered had size before count written tier fresh n in
    let long = length-numbered had size before count written tier fresh n in
    ⊎_elim
    (λ (below : j < n). get_or_append_left front _ 0 j (omega arith) ∙ get-numbered had size before count written tier fresh n j below)
    (λ (above : n ≤ j).
    let is : j ≡ n = omega arith in
    rw is (get_or_at front (if is_kept had size before count written n then slice_index tier n else slice_index fresh (fresh_on had size before count written n)) [] 0 n long))
    (cases_lt j n)

without-append : (test : ℕ → Bool) (k : ℕ) (xs ys : List ℕ) → without test k (xs ++ ys) ≡ without test k xs ++ without test (k + length xs) ys
unfolding without
without-append test k [] ys = let e : k + 0 ≡ k = omega arith in rw e refl
without-append test k (x ∷ xs) ys =
    let e : suc k + length xs ≡ k + suc (length xs) = omega arith in
    let h = without-append test (suc k) xs ys ∙ ap (λ (i : ℕ). without test (suc k) xs ++ without test i ys) e in
    go (test k) _ _ _ h
  where
    go : (b : Bool) (a c d : List ℕ) → a ≡ c ++ d → (if b then a else x ∷ a) ≡ (if b then c else x ∷ c) ++ d
    go true a c d same = same
    go false a c d same = ap (λ (l : List ℕ). x ∷ l) same

-- what isn't kept are the first of the fresh numbers
pub numbered_takes : (had : Bool) (size before count : ℕ) (written tier fresh : List ℕ) (n : ℕ) → fresh_on had size before count written n ≤ length fresh
    → without (is_kept had size before count written) 0 (numbered had size before count written tier fresh n) ≡ take (fresh_on had size before count written n) fresh
unfolding numbered fresh_on without
numbered_takes had size before count written tier fresh zero enough = refl
numbered_takes had size before count written tier fresh (suc n) enough =
    let front = numbered had size before count written tier fresh n in
    let taken = fresh_on had size before count written n in
    let here : 0 + length front ≡ n = (let long = length-numbered had size before count written tier fresh n in omega arith) in
    let fewer : taken ≤ length fresh = (let more = enough in omega arith) in
    without-append (is_kept had size before count written) 0 front _
    ∙ rw here (go (is_kept had size before count written n) (numbered_takes had size before count written tier fresh n fewer) enough)
  where
    go : (b : Bool) → without (is_kept had size before count written) 0 (numbered had size before count written tier fresh n) ≡ take (fresh_on had size before count written n) fresh
        → fresh_on had size before count written n + (if b then 0 else 1) ≤ length fresh
        → without (is_kept had size before count written) 0 (numbered had size before count written tier fresh n)
        ++ (if b then [] else (if b then slice_index tier n else slice_index fresh (fresh_on had size before count written n)) ∷ [])
        ≡ take (fresh_on had size before count written n + (if b then 0 else 1)) fresh
    go true h enough' =
        let e : fresh_on had size before count written n + 0 ≡ fresh_on had size before count written n = omega arith in
        append-nil _ ∙ h ∙ ap (λ (i : ℕ). take i fresh) (sym e)
    go false h enough' =
        let t = fresh_on had size before count written n in
        let e : suc t ≡ t + 1 = omega arith in
        ap (λ (l : List ℕ). l ++ slice_index fresh t ∷ []) h ∙ sym (take-suc fresh t 0 (omega arith)) ∙ ap (λ (i : ℕ). take i fresh) e

-- ---- the test of a pointer block

-- a kept block is one of the level before
kept_there : (size before count : ℕ) (written : List ℕ) (j : ℕ) → 1 ≤ size → j < up count size → is_kept true size before count written j ≡ true → j < up before size
kept_there size before count written j some less is =
    let here : j * size < count = lies j count size some less in
    let same = kept_parts size before count j written is in
    let next : (j + 1) * size ≡ j * size + size = omega arith in
    lies_back j before size some (omega arith)

pub not_both : (had : Bool) (size before count : ℕ) (written : List ℕ) (j : ℕ) → had ≡ false → false ≡ is_kept had size before count written j
not_both had size before count written j is = rw is (sym (never_kept size before count written j))

pub not_same : (had : Bool) (size before count : ℕ) (written : List ℕ) (j end last : ℕ) → end ≡ j * size + size → last ≡ min end count → (min end before ≡ last → ⊥)
    → false ≡ is_kept had size before count written j
unfolding is_kept
not_same had size before count written j end last end_is last_is differ =
    let e : (j + 1) * size ≡ end = omega arith in
    let off : (min end before == min end count) ≡ false = ne_eqb (min end before) (min end count) (λ same. differ (same ∙ sym last_is)) in
    rw (e, off) (go had (not (any_within (j * size) (min end count) written)))
  where
    go : (a b : Bool) → false ≡ (a && false && b)
    go true true = refl
    go true false = refl
    go false true = refl
    go false false = refl

pub is_same : (had : Bool) (size before count : ℕ) (written : List ℕ) (j end last : ℕ) (touched : Bool) → had ≡ true → end ≡ j * size + size → last ≡ min end count → min end before ≡ last
    → touched ≡ any_within (j * size) last written → not touched ≡ is_kept had size before count written j
unfolding is_kept
is_same had size before count written j end last touched is end_is last_is same touched_is =
    let e : (j + 1) * size ≡ end = omega arith in
    let on : (min end before == min end count) ≡ true = eq-eqb (min end before) (min end count) (same ∙ last_is) in
    let reads : touched ≡ any_within (j * size) (min end count) written = touched_is ∙ ap (λ (n : ℕ). any_within (j * size) n written) last_is in
    rw (is, e, on, reads) refl

-- a kept block lies in the level before, which both trees have
pub kept_inside : (had : Bool) (size before count : ℕ) (written : List ℕ) (j : ℕ) → 1 ≤ size → j < up count size → is_kept had size before count written j ≡ true → (had ≡ true) × (j < up before size)
kept_inside true size before count written j some less is = (refl, kept_there size before count written j some less is)
kept_inside false size before count written j some less is = absurd (clash (sym (never_kept size before count written j) ∙ is))

-- ---- fresh numbers of a level

fresh_grows : (had : Bool) (size before count : ℕ) (written : List ℕ) (n d : ℕ) → fresh_on had size before count written n ≤ fresh_on had size before count written (n + d)
unfolding fresh_on
fresh_grows had size before count written n zero = let e : n + 0 ≡ n = omega arith in rw e (omega arith)
fresh_grows had size before count written n (suc d) =
    let e : n + suc d ≡ suc (n + d) = omega arith in
    rw e (let h = fresh_grows had size before count written n d in omega arith)

pub fresh_next : (had : Bool) (size before count : ℕ) (written : List ℕ) (n taken taken' : ℕ) (kept : Bool) → kept ≡ is_kept had size before count written n → taken ≡ fresh_on had size before count written n
    → (kept ≡ true → taken' ≡ taken) → (kept ≡ false → taken' ≡ taken + 1) → taken' ≡ fresh_on had size before count written (n + 1)
unfolding fresh_on
fresh_next had size before count written n taken taken' true is was same more = let e : n + 1 ≡ suc n = omega arith in rw (e, ← is) (let s = same refl in omega arith)
fresh_next had size before count written n taken taken' false is was same more = let e : n + 1 ≡ suc n = omega arith in rw (e, ← is) (let s = more refl in omega arith)

-- one that isn't kept needs another fresh number
pub fresh_room : (had : Bool) (size before count : ℕ) (written : List ℕ) (n m : ℕ) → n < m → is_kept had size before count written n ≡ false
    → fresh_on had size before count written n + 1 ≤ fresh_on had size before count written m
fresh_room had size before count written n m less is =
    let e : n + 1 + (m - (n + 1)) ≡ m = omega arith in
    let grows = fresh_grows had size before count written (n + 1) (m - (n + 1)) in
    let grows' = rw e at grows in
    let next = fresh_next had size before count written n (fresh_on had size before count written n) (fresh_on had size before count written n + 1) false (sym is) refl (λ bad. absurd (clash bad)) (λ _. refl) in
    omega arith

pub numbered_next : (had : Bool) (size before count : ℕ) (written tier fresh : List ℕ) (n taken number : ℕ) (kept : Bool) (old items items' : List ℕ) → kept ≡ is_kept had size before count written n
    → taken ≡ fresh_on had size before count written n → number ≡ (if kept then slice_index tier n else slice_index fresh taken) → items ≡ old ++ numbered had size before count written tier fresh n
    → items' ≡ items ++ number ∷ [] → items' ≡ old ++ numbered had size before count written tier fresh (n + 1)
unfolding numbered
numbered_next had size before count written tier fresh n taken number kept old items items' is was number_is items_is next =
    let e : n + 1 ≡ suc n = omega arith in
    rw e (next ∙ rw (items_is, number_is, was, is) (append_assoc old (numbered had size before count written tier fresh n) _))

pub without_next : (test : ℕ → Bool) (n : ℕ) (tier items items' whole : List ℕ) (kept : Bool) → kept ≡ test n → n < length tier → (kept ≡ true → items' ≡ items)
    → (kept ≡ false → items' ≡ items ++ get_or tier n 0 ∷ []) → items ++ without test n (drop n tier) ≡ whole → items' ++ without test (n + 1) (drop (n + 1) tier) ≡ whole
unfolding without
without_next test n tier items items' whole true is within same more so_far =
    let here : drop n tier ≡ get_or tier n 0 ∷ drop (n + 1) tier = drop_more tier n 0 within in
    let e : suc n ≡ n + 1 = omega arith in
    let so = rw (here, ← is, e) at so_far in
    rw (same refl) so
without_next test n tier items items' whole false is within same more so_far =
    let here : drop n tier ≡ get_or tier n 0 ∷ drop (n + 1) tier = drop_more tier n 0 within in
    let e : suc n ≡ n + 1 = omega arith in
    let so = rw (here, ← is, e) at so_far in
    rw (more refl) (append_assoc items (get_or tier n 0 ∷ []) (without test (n + 1) (drop (n + 1) tier)) ∙ so)

-- a place of a level and the data blocks below it fit
pub place_fits : (j size count : ℕ) → 1 ≤ size → size < 2 ^ 64 → count < 2 ^ 32 → j < up count size → j * size + size < 2 ^ 64
place_fits zero size count some small few less = omega arith
place_fits (suc j) size count some small few less = let here : suc j * size < count = lies (suc j) count size some less in omega arith

-- ---- the levels that are left

-- the pointer blocks of so many levels from one on
unfoldable pub left_count : ℕ → ℕ → ℕ → ℕ → ℕ
left_count fan size n zero = 0
left_count fan size n (suc k) = up n (size * fan) + left_count fan (size * fan) n k

-- the fresh ones among them
unfoldable pub left_fresh : ℕ → ℕ → ℕ → ℕ → List ℕ → ℕ → ℕ → ℕ
left_fresh fan size before count written h zero = 0
left_fresh fan size before count written zero (suc k) =
    fresh_on false (size * fan) before count written (up count (size * fan)) + left_fresh fan (size * fan) before count written zero k
left_fresh fan size before count written (suc h) (suc k) =
    fresh_on true (size * fan) before count written (up count (size * fan)) + left_fresh fan (size * fan) before count written h k

pub counts_left : (fan n i k : ℕ) → pointers_to fan n i + left_count fan (fan ^ i) n k ≡ pointers_to fan n (i + k)
unfolding pointers_to left_count
counts_left fan n i zero = let e : i + 0 ≡ i = omega arith in rw e (omega arith)
counts_left fan n i (suc k) =
    let e : i + suc k ≡ suc i + k = omega arith in
    let power : fan ^ i * fan ≡ fan ^ suc i = sym (pow-suc fan i) in
    let deeper = counts_left fan n (suc i) k in
    rw (e, power) (omega arith)

pub count_first : (fan n k : ℕ) → left_count fan 1 n k ≡ pointers_to fan n k
unfolding pointers_to
count_first fan n k =
    let e : 0 + k ≡ k = omega arith in
    let all = counts_left fan n 0 k in
    let one : left_count fan (fan ^ 0) n k ≡ left_count fan 1 n k = ap (λ (s : ℕ). left_count fan s n k) (pow-zero fan) in
    sym one ∙ (let a : 0 + left_count fan (fan ^ 0) n k ≡ pointers_to fan n (0 + k) = all in omega (arith, a, ap (pointers_to fan n) e))

pub fresh_left : (fan before count : ℕ) (written : List ℕ) (h i k : ℕ) → h ≡ levels fan before - i
    → fresh_to fan before count written i + left_fresh fan (fan ^ i) before count written h k ≡ fresh_to fan before count written (i + k)
unfolding fresh_to left_fresh
fresh_left fan before count written h i zero is = let e : i + 0 ≡ i = omega arith in rw e (omega arith)
fresh_left fan before count written zero i (suc k) is =
    let e : i + suc k ≡ suc i + k = omega arith in
    let power : fan ^ i * fan ≡ fan ^ suc i = sym (pow-suc fan i) in
    let none : nat_le (suc i) (levels fan before) ≡ false = lt-leb (suc i) (levels fan before) (omega arith) in
    let deeper = fresh_left fan before count written zero (suc i) k (omega arith) in
    let deeper' = rw none at deeper in
    rw (e, power) (omega arith)
fresh_left fan before count written (suc h) i (suc k) is =
    let e : i + suc k ≡ suc i + k = omega arith in
    let power : fan ^ i * fan ≡ fan ^ suc i = sym (pow-suc fan i) in
    let there : nat_le (suc i) (levels fan before) ≡ true = le-leb (suc i) (levels fan before) (omega arith) in
    let deeper = fresh_left fan before count written h (suc i) k (omega arith) in
    let deeper' = rw there at deeper in
    rw (e, power) (omega arith)

pub fresh_first : (fan before count : ℕ) (written : List ℕ) (k : ℕ) → left_fresh fan 1 before count written (levels fan before) k ≡ fresh_to fan before count written k
unfolding fresh_to
fresh_first fan before count written k =
    let e : 0 + k ≡ k = omega arith in
    let all = fresh_left fan before count written (levels fan before) 0 k (omega arith) in
    let one : left_fresh fan (fan ^ 0) before count written (levels fan before) k ≡ left_fresh fan 1 before count written (levels fan before) k =
    ap (λ (s : ℕ). left_fresh fan s before count written (levels fan before) k) (pow-zero fan) in
    sym one ∙ (let a : 0 + left_fresh fan (fan ^ 0) before count written (levels fan before) k ≡ fresh_to fan before count written (0 + k) = all in omega (arith, a, ap (fresh_to fan before count written) e))

-- ---- all levels

-- the tree after has as many on each level as its shape
pub paths_whole : (fan size before count : ℕ) (written : List ℕ) (olds : List (List ℕ)) (k : ℕ) (fresh : List ℕ)
    → length (concat (paths fan size before count written olds k fresh)) ≡ left_count fan size count k
unfolding paths left_count
paths_whole fan size before count written olds zero fresh = refl
paths_whole fan size before count written [] (suc k) fresh =
    let m = up count (size * fan) in
    let tier = numbered false (size * fan) before count written [] fresh m in
    let more = drop (fresh_on false (size * fan) before count written m) fresh in
    length-append tier (concat (paths fan (size * fan) before count written [] k more))
    ∙ (let a = length-numbered false (size * fan) before count written [] fresh m in let b = paths_whole fan (size * fan) before count written [] k more in omega arith)
paths_whole fan size before count written (old ∷ olds) (suc k) fresh =
    let m = up count (size * fan) in
    let tier = numbered true (size * fan) before count written old fresh m in
    let more = drop (fresh_on true (size * fan) before count written m) fresh in
    length-append tier (concat (paths fan (size * fan) before count written olds k more))
    ∙ (let a = length-numbered true (size * fan) before count written old fresh m in let b = paths_whole fan (size * fan) before count written olds k more in omega arith)

pub path_is_whole : PathIsWhole
unfolding pointer_count
path_is_whole fan before count olds written fresh some =
    paths_whole fan 1 before count written (tree_levels fan before olds) (levels fan count) fresh ∙ count_first fan count (levels fan count)

-- what comes are the first of the fresh numbers
paths_take : (fan size before count : ℕ) (written numbers : List ℕ) (h k : ℕ) (fresh : List ℕ) → left_fresh fan size before count written h k ≤ length fresh
    → came fan size before count written (levels_of fan size before h numbers) (paths fan size before count written (levels_of fan size before h numbers) k fresh)
    ≡ take (left_fresh fan size before count written h k) fresh
unfolding paths left_fresh came levels_of
paths_take fan size before count written numbers zero zero fresh enough = refl
paths_take fan size before count written numbers (suc h) zero fresh enough = refl
paths_take fan size before count written numbers zero (suc k) fresh enough =
    let m = up count (size * fan) in
    let taken = fresh_on false (size * fan) before count written m in
    let long = length-drop taken fresh in
    let here = numbered_takes false (size * fan) before count written [] fresh m (omega arith) in
    let rest = paths_take fan (size * fan) before count written numbers zero k (drop taken fresh) (omega arith) in
    rw (here, rest) (sym (take-add taken (left_fresh fan (size * fan) before count written zero k) fresh))
paths_take fan size before count written numbers (suc h) (suc k) fresh enough =
    let m = up count (size * fan) in
    let taken = fresh_on true (size * fan) before count written m in
    let long = length-drop taken fresh in
    let b = up before (size * fan) in
    let here = numbered_takes true (size * fan) before count written (take b numbers) fresh m (omega arith) in
    let rest = paths_take fan (size * fan) before count written (drop b numbers) h k (drop taken fresh) (omega arith) in
    rw (here, rest) (sym (take-add taken (left_fresh fan (size * fan) before count written h k) fresh))

pub path_takes_first : PathTakesFirst
path_takes_first fan before count olds written fresh some enough =
    let first = fresh_first fan before count written (levels fan count) in
    paths_take fan 1 before count written olds (levels fan before) (levels fan count) fresh (omega arith) ∙ ap (λ (n : ℕ). take n fresh) first

-- ---- it is shared

in_drop : (n b : ℕ) (xs : List ℕ) → In n (drop b xs) → In n xs
in_drop n zero xs there = there
in_drop n (suc b) [] there = there
in_drop n (suc b) (x ∷ xs) there = inr (in_drop n b xs there)

-- the fresh blocks of a level point to their groups
abbrev TierPoints : Form → Image → Bool → ℕ → ℕ → ℕ → List ℕ → List ℕ → List ℕ → Type 0
TierPoints form later had size before count written below tier =
    (j : ℕ) → j < length tier → is_kept had size before count written j ≡ false → Names form later (slice_index tier j) (group form.fan below j)

tier_shared : (form : Form) (earlier later : Image) (size before count : ℕ) (written numbers fresh below : List ℕ) → 1 ≤ form.fan → 1 ≤ size → 1 ≤ size * form.fan
    → length below ≡ up count size → up before (size * form.fan) ≤ length numbers → ((n : ℕ) → In n numbers → earlier n ≡ later n)
    → TierPoints form later true (size * form.fan) before count written below
    (numbered true (size * form.fan) before count written (take (up before (size * form.fan)) numbers) fresh (up count (size * form.fan)))
    → SharedTier form earlier later (size * form.fan) before count written true (take (up before (size * form.fan)) numbers) below
    (numbered true (size * form.fan) before count written (take (up before (size * form.fan)) numbers) fresh (up count (size * form.fan)))
tier_shared form earlier later size before count written numbers fresh below some room room' long enough same names =
    let wide = size * form.fan in
    let b = up before wide in
    let m = up count wide in
    let tier = take b numbers in
    let long' = length-numbered true wide before count written tier fresh m in
    record {
      long = long' ∙ sym (up_up count size form.fan room some) ∙ ap (λ (n : ℕ). up n form.fan) (sym long);
      kept = λ j less is.
          let inside : j < b = kept_there wide before count written j room' (omega arith) is in
          let number : slice_index tier j ≡ slice_index numbers j = get_or-take b numbers j 0 inside in
          let taken : slice_index (numbered true wide before count written tier fresh m) j ≡ slice_index tier j =
          get-numbered true wide before count written tier fresh m j (omega arith) ∙ (rw is refl) in
          (taken, subst (λ (n : ℕ). earlier n ≡ later n) (sym number) (same (slice_index numbers j) (in_at numbers j (omega arith))));
      fresh = names;
    }

none_shared : (form : Form) (earlier later : Image) (size before count : ℕ) (written fresh below : List ℕ) → 1 ≤ form.fan → 1 ≤ size → length below ≡ up count size
    → ((j : ℕ) → j < length (numbered false (size * form.fan) before count written [] fresh (up count (size * form.fan)))
    → Names form later (slice_index (numbered false (size * form.fan) before count written [] fresh (up count (size * form.fan))) j) (group form.fan below j))
    → SharedTier form earlier later (size * form.fan) before count written false [] below
    (numbered false (size * form.fan) before count written [] fresh (up count (size * form.fan)))
none_shared form earlier later size before count written fresh below some room long names =
    let wide = size * form.fan in
    record {
      long = length-numbered false wide before count written [] fresh (up count wide) ∙ sym (up_up count size form.fan room some) ∙ ap (λ (n : ℕ). up n form.fan) (sym long);
      kept = λ j less is. absurd (clash (sym (never_kept wide before count written j) ∙ is));
      fresh = λ j less is. names j less;
    }

paths_shared : (form : Form) (earlier later : Image) (size before count : ℕ) (written numbers : List ℕ) (h k : ℕ) (fresh below : List ℕ) → 1 ≤ form.fan → 1 ≤ size
    → length below ≡ up count size → left_count form.fan size before h ≤ length numbers → ((n : ℕ) → In n numbers → earlier n ≡ later n)
    → PointFresh form later size before count written (levels_of form.fan size before h numbers) below
    (paths form.fan size before count written (levels_of form.fan size before h numbers) k fresh)
    → Shared form earlier later size before count written (levels_of form.fan size before h numbers) below
    (paths form.fan size before count written (levels_of form.fan size before h numbers) k fresh)
unfolding paths left_count levels_of
paths_shared form earlier later size before count written numbers zero zero fresh below some room long enough same names = tt
paths_shared form earlier later size before count written numbers (suc h) zero fresh below some room long enough same names = tt
paths_shared form earlier later size before count written numbers zero (suc k) fresh below some room long enough same names =
    let wide = size * form.fan in
    let m = up count wide in
    let tier = numbered false wide before count written [] fresh m in
    let room' : 1 ≤ wide = mul-pos room some in (
      none_shared form earlier later size before count written fresh below some room long names.0,
      paths_shared form earlier later wide before count written numbers zero k (drop (fresh_on false wide before count written m) fresh) tier some room'
          (length-numbered false wide before count written [] fresh m) (omega arith) same names.1,
    )
paths_shared form earlier later size before count written numbers (suc h) (suc k) fresh below some room long enough same names =
    let wide = size * form.fan in
    let m = up count wide in
    let b = up before wide in
    let tier = numbered true wide before count written (take b numbers) fresh m in
    let room' : 1 ≤ wide = mul-pos room some in
    let rest = length-drop b numbers in (
      tier_shared form earlier later size before count written numbers fresh below some room room' long (omega arith) same names.0,
      paths_shared form earlier later wide before count written (drop b numbers) h k (drop (fresh_on true wide before count written m) fresh) tier some room'
          (length-numbered true wide before count written (take b numbers) fresh m) (omega arith) (λ n there. same n (in_drop n b numbers there)) names.1,
    )

pub path_is_shared : PathIsShared
unfolding pointer_count
path_is_shared form earlier later before olds leaves written fresh some long same names =
    let all = count_first form.fan before (levels form.fan before) in
    paths_shared form earlier later 1 before (length leaves) written olds (levels form.fan before) (levels form.fan (length leaves)) fresh leaves some (omega arith)
    (sym (up_one (length leaves))) (omega arith) same names

-- ---- a level further

pub shifts : (height levels : ℕ) (both : Bool) → both ≡ nat_lt height levels → both ≡ nat_lt 0 (levels - height)
shifts height levels both is = ⊎_elim
    (λ (low : height < levels). is ∙ lt-ltb height levels low ∙ sym (lt-ltb 0 (levels - height) (omega arith)))
    (λ (high : levels ≤ height). is ∙ le-ltb height levels high ∙ sym (le-ltb 0 (levels - height) (omega arith)))
    (cases_lt height levels)

pub count_none : (fan size n : ℕ) → left_count fan size n 0 ≡ 0
unfolding left_count
count_none fan size n = refl

pub count_next : (fan size n h : ℕ) (both : Bool) → both ≡ nat_lt 0 h → left_count fan size n h ≡ (if both then up n (size * fan) else 0) + left_count fan (size * fan) n (h - 1)
unfolding left_count
count_next fan size n zero both is = rw is refl
count_next fan size n (suc h) both is = let e : suc h - 1 ≡ h = omega arith in let on : both ≡ true = is ∙ lt-ltb 0 (suc h) (omega arith) in rw (on, e) refl

pub left_fresh_next : (fan size before count : ℕ) (written : List ℕ) (h k : ℕ) (both : Bool) → both ≡ nat_lt 0 h → 0 < k → left_fresh fan size before count written h k
    ≡ fresh_on both (size * fan) before count written (up count (size * fan)) + left_fresh fan (size * fan) before count written (h - 1) (k - 1)
unfolding left_fresh
left_fresh_next fan size before count written h zero both is some = absurd (omega arith)
left_fresh_next fan size before count written zero (suc k) both is some = let e : suc k - 1 ≡ k = omega arith in rw (is, e) refl
left_fresh_next fan size before count written (suc h) (suc k) both is some = let e : suc k - 1 ≡ k = omega arith in let f : suc h - 1 ≡ h = omega arith in let on : both ≡ true = is ∙ lt-ltb 0 (suc h) (omega arith) in rw (on, e, f) refl

pub paths_next : (fan size before count : ℕ) (written olds numbers items items' whole : List ℕ) (h k m taken : ℕ) (both : Bool) → both ≡ nat_lt 0 h → 0 < k
    → m ≡ (if both then up before (size * fan) else 0) → taken ≡ fresh_on both (size * fan) before count written (up count (size * fan))
    → items' ≡ items ++ numbered both (size * fan) before count written (take m olds) numbers (up count (size * fan))
    → items ++ concat (paths fan size before count written (levels_of fan size before h olds) k numbers) ≡ whole
    → items' ++ concat (paths fan (size * fan) before count written (levels_of fan (size * fan) before (h - 1) (drop m olds)) (k - 1) (drop taken numbers)) ≡ whole
unfolding paths levels_of
paths_next fan size before count written olds numbers items items' whole h zero m taken both is some m_is taken_is next so_far = absurd (omega arith)
paths_next fan size before count written olds numbers items items' whole zero (suc k) m taken both is some m_is taken_is next so_far =
    let e : suc k - 1 ≡ k = omega arith in
    rw (next, m_is, taken_is, is, e) (append_assoc items _ _ ∙ so_far)
paths_next fan size before count written olds numbers items items' whole (suc h) (suc k) m taken both is some m_is taken_is next so_far =
    let e : suc k - 1 ≡ k = omega arith in
    let f : suc h - 1 ≡ h = omega arith in
    let on : both ≡ true = is ∙ lt-ltb 0 (suc h) (omega arith) in
    rw (next, m_is, taken_is, on, e, f) (append_assoc items _ _ ∙ so_far)

pub paths_none : (fan size before count : ℕ) (written : List ℕ) (olds : List (List ℕ)) (fresh : List ℕ) → paths fan size before count written olds 0 fresh ≡ []
unfolding paths
paths_none fan size before count written [] fresh = refl
paths_none fan size before count written (old ∷ olds) fresh = refl

all_gone : (size old count : ℕ) (written : List ℕ) (k : ℕ) (xs : List ℕ) → without (is_kept false size old count written) k xs ≡ xs
unfolding without
all_gone size old count written k [] = refl
all_gone size old count written k (x ∷ xs) = rw (never_kept size old count written k) (ap (λ (l : List ℕ). x ∷ l) (all_gone size old count written (suc k) xs))

-- levels that the tree after lacks go whole
gone_beyond : (fan size size' before count : ℕ) (written : List ℕ) (olds : List (List ℕ)) → gone fan size before count written olds [] ≡ gone fan size' before count written olds []
unfolding gone
gone_beyond fan size size' before count written [] = refl
gone_beyond fan size size' before count written (old ∷ olds) = ap (λ (g : List ℕ). old ++ g) (gone_beyond fan size size' before count written olds)

pub gone_next : (fan size before count : ℕ) (written olds items items' whole : List ℕ) (h : ℕ) (tiers : List (List ℕ)) (height m : ℕ) (both : Bool) → both ≡ nat_lt height (length tiers) → 0 < h
    → m ≡ up before (size * fan) → items' ≡ items ++ without (is_kept both (size * fan) before count written) 0 (take m olds)
    → items ++ gone fan size before count written (levels_of fan size before h olds) (drop height tiers) ≡ whole
    → items' ++ gone fan (size * fan) before count written (levels_of fan (size * fan) before (h - 1) (drop m olds)) (drop (height + 1) tiers) ≡ whole
unfolding gone levels_of
gone_next fan size before count written olds items items' whole zero tiers height m both is some m_is next so_far = absurd (omega arith)
gone_next fan size before count written olds items items' whole (suc h) tiers height m both is some m_is next so_far =
    let f : suc h - 1 ≡ h = omega arith in
    ⊎_elim
    (λ (low : height < length tiers).
    let here : drop height tiers ≡ get_or tiers height [] ∷ drop (height + 1) tiers = drop_more tiers height [] low in
    let so = rw here at so_far in
    rw (next, m_is, is, lt-ltb height (length tiers) low, f) (append_assoc items _ _ ∙ so))
    (λ (high : length tiers ≤ height).
    let here : drop height tiers ≡ [] = drop_of_length-le tiers high in
    let after : drop (height + 1) tiers ≡ [] = drop_of_length-le tiers (omega arith) in
    let so = rw here at so_far in
    let b = up before (size * fan) in
    let rest = levels_of fan (size * fan) before h (drop b olds) in
    rw (next, m_is, is, le-ltb height (length tiers) high, f, after, all_gone (size * fan) before count written 0 (take b olds))
    (append_assoc items (take b olds) (gone fan (size * fan) before count written rest [])
    ∙ ap (λ (g : List ℕ). items ++ (take b olds ++ g)) (gone_beyond fan (size * fan) size before count written rest) ∙ so))
    (cases_lt height (length tiers))

pub none_gone : (fan size before count : ℕ) (written olds : List ℕ) (tiers : List (List ℕ)) → gone fan size before count written (levels_of fan size before 0 olds) tiers ≡ []
unfolding gone levels_of
none_gone fan size before count written olds [] = refl
none_gone fan size before count written olds (tier ∷ tiers) = refl

-- a level below the highest has fewer data blocks below each pointer block than there are
pub power_low : (fan blocks height : ℕ) → 2 ≤ fan → blocks < 2 ^ 32 → height < levels fan blocks → fan ^ height < blocks
power_low fan blocks height wide small low = (levels_needs fan blocks wide small).fewer height low

pub product_fits : (size fan : ℕ) → size < 2 ^ 32 → fan < 2 ^ 32 → size * fan < 2 ^ 64
product_fits size fan small narrow = let h : size * fan ≤ (2 ^ 32 - 1) * fan = mul-le-mul_right fan (omega arith) in omega arith

pub path_takes_no_more : PathTakesNoMore
unfolding pointer_count
path_takes_no_more fan before count written = fresh_to_few fan before count written (levels fan count)

-- ---- places

pub places_next : (had : Bool) (size before count : ℕ) (written : List ℕ) (at n place : ℕ) (kept : Bool) (old items items' : List ℕ) → kept ≡ is_kept had size before count written n
    → place ≡ at + n → (kept ≡ true → items' ≡ items) → (kept ≡ false → items' ≡ items ++ place ∷ []) → items ≡ old ++ places_on had size before count written at n
    → items' ≡ old ++ places_on had size before count written at (n + 1)
unfolding places_on
places_next had size before count written at n place true old items items' is here same more so_far =
    let e : n + 1 ≡ suc n = omega arith in
    rw (e, ← is) (same refl ∙ so_far ∙ ap (λ (l : List ℕ). old ++ l) (sym (append-nil (places_on had size before count written at n))))
places_next had size before count written at n place false old items items' is here same more so_far =
    let e : n + 1 ≡ suc n = omega arith in
    rw (e, ← is) (more refl ∙ ap (λ (l : List ℕ). l ++ place ∷ []) so_far ∙ append_assoc old (places_on had size before count written at n) (place ∷ [])
    ∙ ap (λ (k : ℕ). old ++ (places_on had size before count written at n ++ k ∷ [])) here)

pub places_up : (fan before count : ℕ) (written : List ℕ) (i first size : ℕ) (both : Bool) (old items items' : List ℕ) → both ≡ nat_lt i (levels fan before) → size ≡ fan ^ (i + 1) → first ≡ pointers_to fan count i
    → items ≡ old ++ places_to fan before count written i → items' ≡ items ++ places_on both size before count written first (up count size)
    → items' ≡ old ++ places_to fan before count written (i + 1)
unfolding places_to
places_up fan before count written i first size both old items items' both_is size_is first_is so_far next =
    let e : i + 1 ≡ suc i = omega arith in
    let s : size ≡ fan ^ suc i = size_is ∙ ap (λ (n : ℕ). fan ^ n) e in
    rw e (next ∙ rw (so_far, both_is, s, first_is) (append_assoc old (places_to fan before count written i) _))

-- as many as are counted
on_count : (had : Bool) (size before count : ℕ) (written : List ℕ) (at n : ℕ) → length (places_on had size before count written at n) ≡ fresh_on had size before count written n
unfolding places_on fresh_on
on_count had size before count written at zero = refl
on_count had size before count written at (suc j) = go (is_kept had size before count written j) (on_count had size before count written at j)
  where
    go : (b : Bool) → length (places_on had size before count written at j) ≡ fresh_on had size before count written j
        → length (places_on had size before count written at j ++ (if b then [] else (at + j) ∷ [])) ≡ fresh_on had size before count written j + (if b then 0 else 1)
    go true rest = length-append (places_on had size before count written at j) [] ∙ (omega arith)
    go false rest = length-append (places_on had size before count written at j) ((at + j) ∷ []) ∙ (omega arith)

pub places_count : (fan before count : ℕ) (written : List ℕ) (k : ℕ) → length (places_to fan before count written k) ≡ fresh_to fan before count written k
unfolding places_to fresh_to
places_count fan before count written zero = refl
places_count fan before count written (suc i) =
    let rest = places_count fan before count written i in
    let level = on_count (nat_le (suc i) (levels fan before)) (fan ^ suc i) before count written (pointers_to fan count i) (up count (fan ^ suc i)) in
    length-append (places_to fan before count written i) (places_on (nat_le (suc i) (levels fan before)) (fan ^ suc i) before count written (pointers_to fan count i) (up count (fan ^ suc i))) ∙ (omega arith)

-- each lies among the pointer blocks
on_within : (had : Bool) (size before count : ℕ) (written : List ℕ) (at n p : ℕ) → In p (places_on had size before count written at n) → p < at + n
unfolding places_on
on_within had size before count written at zero p there = absurd there
on_within had size before count written at (suc j) p there = ⊎_elim
    (λ (front : In p (places_on had size before count written at j)). let less = on_within had size before count written at j p front in omega arith)
    (λ (last : In p (if is_kept had size before count written j then [] else (at + j) ∷ [])). go (is_kept had size before count written j) last)
    (In-either p (places_on had size before count written at j) (if is_kept had size before count written j then [] else (at + j) ∷ []) there)
  where
    go : (b : Bool) → In p (if b then [] else (at + j) ∷ []) → p < at + suc j
    go true none = absurd none
    go false (inl is) = omega arith
    go false (inr none) = absurd none

pub places_within : (fan before count : ℕ) (written : List ℕ) (k p : ℕ) → In p (places_to fan before count written k) → p < pointers_to fan count k
unfolding places_to pointers_to
places_within fan before count written zero p there = absurd there
places_within fan before count written (suc i) p there = ⊎_elim
    (λ (front : In p (places_to fan before count written i)). let less = places_within fan before count written i p front in omega arith)
    (λ (last : In p (places_on (nat_le (suc i) (levels fan before)) (fan ^ suc i) before count written (pointers_to fan count i) (up count (fan ^ suc i)))).
    on_within (nat_le (suc i) (levels fan before)) (fan ^ suc i) before count written (pointers_to fan count i) (up count (fan ^ suc i)) p last)
    (In-either p (places_to fan before count written i) (places_on (nat_le (suc i) (levels fan before)) (fan ^ suc i) before count written (pointers_to fan count i) (up count (fan ^ suc i))) there)

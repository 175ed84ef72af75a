-- The data blocks that the bits of blocks touch, from the lowest on.
use Rattle.std.proofs.Common.{◌≡◌, ◌⊎◌, inl, inr, ⊎_elim, ℕ, zero, suc, ◌+◌, ◌-◌, ◌*◌, ◌≤◌, ◌<◌, List, [], ◌∷◌, ◌++◌, length, get_or, take, Option, None, Some, refl, sym, ◌∙◌, ap, subst, arith, append_assoc, length-append}
use Rattle.std.specs.Prelude.{◌/◌, ◌%◌, min, map, All}
use Rattle.std.specs.Int.{div_ceil}
use Rattle.std.specs.Option.{option_map_or}
use Rattle.std.specs.List.Sorted.{IsStrictlyIncreasing}
use Rattle.std.proofs.lemmas.List.{take_more, map-append}
use Rattle.std.proofs.lemmas.List.Elements.{All-head, All-tail}
use Rattle.std.proofs.lemmas.Bool.{cases_lt}
use Rattle.std.proofs.Math.Nat.{div-div-eq-div-mul, div-lt_iff_lt-mul, div-le_self}
use Rattle.std.proofs.lemmas.Grind.{div_ceil_times}
use Rattle.cms_model.specs.Lists.{In}
use Rattle.cms_map.specs.Touched.{data_block, AppendsTouched, IsLowest}

pub in_push : (n x : ℕ) (xs : List ℕ) → In n (xs ++ x ∷ []) → In n xs ⊎ (n ≡ x)
in_push n x [] (inl is) = inr is
in_push n x [] (inr h) = absurd h
in_push n x (y ∷ ys) (inl is) = inl (inl is)
in_push n x (y ∷ ys) (inr h) = ⊎_elim (λ (a : In n ys). inl (inr a)) (λ (b : n ≡ x). inr b) (in_push n x ys h)

pub in_front : (n x : ℕ) (xs : List ℕ) → In n xs → In n (xs ++ x ∷ [])
in_front n x [] h = absurd h
in_front n x (y ∷ ys) (inl is) = inl is
in_front n x (y ∷ ys) (inr h) = inr (in_front n x ys h)

pub in_end : (x : ℕ) (xs : List ℕ) → In x (xs ++ x ∷ [])
in_end x [] = inl refl
in_end x (y ∷ ys) = inr (in_end x ys)

-- ---- the lowest

lowest_passed : (from x : ℕ) (xs : List ℕ) (lowest : Option ℕ) → x < from → IsLowest from xs lowest → IsLowest from (xs ++ x ∷ []) lowest
lowest_passed from x xs None less low = λ n h. ⊎_elim (λ (a : In n xs). low n a) (λ (b : n ≡ x). omega arith) (in_push n x xs h)
lowest_passed from x xs (Some l) less low =
    let above = low.0 in
    (above, in_front l x xs low.1, λ n h later. ⊎_elim (λ (a : In n xs). low.2 n a later) (λ (b : n ≡ x). absurd (omega arith)) (in_push n x xs h))

lowest_found : (from x : ℕ) (xs : List ℕ) (lowest : Option ℕ) → from ≤ x → IsLowest from xs lowest → IsLowest from (xs ++ x ∷ []) (Some (option_map_or (min x) lowest x))
lowest_found from x xs None later low =
    (later, in_end x xs, λ n h above. ⊎_elim (λ (a : In n xs). let less = low n a in absurd (omega arith)) (λ (b : n ≡ x). omega arith) (in_push n x xs h))
lowest_found from x xs (Some l) later low =
    let above = low.0 in
    ⊎_elim
    (λ (less : x < l).
    let is : min x l ≡ x = omega arith in
    rw is (later, in_end x xs, λ n h here. ⊎_elim (λ (a : In n xs). let m = low.2 n a here in omega arith) (λ (b : n ≡ x). omega arith) (in_push n x xs h)))
    (λ (more : l ≤ x).
    let is : min x l ≡ l = omega arith in
    rw is (above, in_front l x xs low.1, λ n h here. ⊎_elim (λ (a : In n xs). low.2 n a here) (λ (b : n ≡ x). omega arith) (in_push n x xs h)))
    (cases_lt x l)

-- the blocks before one, and that one
map_more : (f : ℕ → ℕ) (xs : List ℕ) (i : ℕ) → i < length xs → map f (take (i + 1) xs) ≡ map f (take i xs) ++ f (get_or xs i 0) ∷ []
map_more f xs i less = ap (map f) (take_more xs i 0 less) ∙ map-append f (take i xs) (get_or xs i 0 ∷ [])

place_is : (bsize block place : ℕ) → place ≡ (block - 1) / 8 / bsize → place ≡ data_block bsize block
place_is bsize block place is = is ∙ div-div-eq-div-mul (block - 1) 8 bsize

pub passed_more : (from bsize place : ℕ) (blocks : List ℕ) (i : ℕ) (lowest : Option ℕ) → i < length blocks → place ≡ (get_or blocks i 0 - 1) / 8 / bsize → place < from
    → IsLowest from (map (data_block bsize) (take i blocks)) lowest → IsLowest from (map (data_block bsize) (take (i + 1) blocks)) lowest
passed_more from bsize place blocks i lowest less is low before =
    let here = place_is bsize (get_or blocks i 0) place is in
    rw (map_more (data_block bsize) blocks i less) (lowest_passed from (data_block bsize (get_or blocks i 0)) (map (data_block bsize) (take i blocks)) lowest (omega arith) before)

pub found_more : (from bsize place low : ℕ) (blocks : List ℕ) (i : ℕ) (lowest : Option ℕ) → i < length blocks → place ≡ (get_or blocks i 0 - 1) / 8 / bsize → from ≤ place
    → low ≡ option_map_or (min place) lowest place
    → IsLowest from (map (data_block bsize) (take i blocks)) lowest → IsLowest from (map (data_block bsize) (take (i + 1) blocks)) (Some low)
found_more from bsize place low blocks i lowest less is later low_is before =
    let here = place_is bsize (get_or blocks i 0) place is in
    rw (map_more (data_block bsize) blocks i less, low_is, here) (lowest_found from (data_block bsize (get_or blocks i 0)) (map (data_block bsize) (take i blocks)) lowest (omega arith) before)

-- ---- one after another

-- the data blocks below one that are touched, behind what was there before
pub record Touching (bsize : ℕ) (blocks old items : List ℕ) (from : ℕ) : Type 0 where
  pub touched : List ℕ
  pub appended : items ≡ old ++ touched
  pub ascend : IsStrictlyIncreasing touched
  pub few : length touched ≤ from
  pub below : (n : ℕ) → In n touched → (n < from) × In n (map (data_block bsize) blocks)
  pub all : (n : ℕ) → In n (map (data_block bsize) blocks) → n < from → In n touched

pub touches_none : (bsize : ℕ) (blocks old : List ℕ) → Touching bsize blocks old old 0
touches_none bsize blocks old = record {
  touched = [];
  appended = sym (nothing_behind old);
  ascend = λ k less. absurd (omega arith);
  few = omega arith;
  below = λ n h. absurd h;
  all = λ n h less. absurd (omega arith);
}
  where
    nothing_behind : (xs : List ℕ) → xs ++ [] ≡ xs
    nothing_behind [] = refl
    nothing_behind (x ∷ xs) = ap (λ (l : List ℕ). x ∷ l) (nothing_behind xs)

in_at : (k : ℕ) (xs : List ℕ) → k < length xs → In (get_or xs k 0) xs
in_at k [] less = absurd (omega arith)
in_at zero (x ∷ xs) less = inl refl
in_at (suc k) (x ∷ xs) less = inr (in_at k xs (omega arith))

before_end : (k x : ℕ) (xs : List ℕ) → k < length xs → get_or (xs ++ x ∷ []) k 0 ≡ get_or xs k 0
before_end k x [] less = absurd (omega arith)
before_end zero x (y ∷ ys) less = refl
before_end (suc k) x (y ∷ ys) less = before_end k x ys (omega arith)

at_end : (k x : ℕ) (xs : List ℕ) → k ≡ length xs → get_or (xs ++ x ∷ []) k 0 ≡ x
at_end zero x [] is = refl
at_end (suc k) x [] is = absurd (omega arith)
at_end zero x (y ∷ ys) is = absurd (omega arith)
at_end (suc k) x (y ∷ ys) is = at_end k x ys (omega arith)

ascend_push : (x : ℕ) (xs : List ℕ) → IsStrictlyIncreasing xs → ((n : ℕ) → In n xs → n < x) → IsStrictlyIncreasing (xs ++ x ∷ [])
ascend_push x xs up less k within =
    let long = length-append xs (x ∷ []) in
    ⊎_elim
    (λ (inside : k + 1 < length xs). rw (before_end k x xs (omega arith), before_end (k + 1) x xs inside) (up k inside))
    (λ (last : length xs ≤ k + 1).
    let end : k + 1 ≡ length xs = omega arith in
    rw (before_end k x xs (omega arith), at_end (k + 1) x xs end) (less (get_or xs k 0) (in_at k xs (omega arith))))
    (cases_lt (k + 1) (length xs))

pub touches_next : (bsize : ℕ) (blocks old items : List ℕ) (from place : ℕ) → Touching bsize blocks old items from → IsLowest from (map (data_block bsize) blocks) (Some place)
    → Touching bsize blocks old (items ++ place ∷ []) (place + 1)
touches_next bsize blocks old items from place t low =
    let later = low.0 in
    let few = t.few in
    let all = map (data_block bsize) blocks in
    record {
      touched = t.touched ++ place ∷ [];
      appended = ap (λ (l : List ℕ). l ++ place ∷ []) t.appended ∙ append_assoc old t.touched (place ∷ []);
      ascend = ascend_push place t.touched t.ascend (λ n h. let b = (t.below n h).0 in omega arith);
      few = omega (arith, length-append t.touched (place ∷ []));
      below = λ n h. ⊎_elim
          (λ (a : In n t.touched). let b = t.below n a in let less = b.0 in (omega arith, b.1))
          (λ (is : n ≡ place). (omega arith, subst (λ (m : ℕ). In m all) (sym is) low.1))
          (in_push n place t.touched h);
      all = λ n h less. ⊎_elim
          (λ (before : n < from). in_front n place t.touched (t.all n h before))
          (λ (behind : from ≤ n).
          let least = low.2 n h behind in
          let is : place ≡ n = omega arith in
          subst (λ (m : ℕ). In m (t.touched ++ place ∷ [])) is (in_end place t.touched))
          (cases_lt n from);
    }

pub touches_all : (bsize : ℕ) (blocks old items : List ℕ) (from : ℕ) → Touching bsize blocks old items from → IsLowest from (map (data_block bsize) blocks) None
    → AppendsTouched bsize blocks old items
touches_all bsize blocks old items from t low = record {
  touched = t.touched;
  appended = t.appended;
  are_touched = record { ascend = t.ascend; each = λ n. (λ h. (t.below n h).1, λ h. t.all n h (low n h)) };
}

-- ---- they are data blocks of the map

block_below : (bsize block total : ℕ) → 0 < bsize → 1 ≤ block → block ≤ total → data_block bsize block < div_ceil total (8 * bsize)
block_below bsize block total some first last =
    let wide : 0 < 8 * bsize = omega arith in
    quotient (8 * bsize) (block - 1) total wide (omega arith)
  where
    quotient : (w a b : ℕ) → 0 < w → a < b → a / w < b / w + min 1 (b % w)
    quotient w a b some less =
        let whole = (div_ceil_times b w some).0 in
        (div-lt_iff_lt-mul some).1 (omega (arith, whole))

pub touched_below : (bsize total n : ℕ) (blocks : List ℕ) → 0 < bsize → All (λ n. (1 ≤ n) × (n ≤ total)) blocks → In n (map (data_block bsize) blocks) → n < div_ceil total (8 * bsize)
touched_below bsize total n [] some all h = absurd h
touched_below bsize total n (block ∷ blocks) some all (inl is) =
    let here = All-head (λ n. (1 ≤ n) × (n ≤ total)) block blocks all in
    let low = here.0 in
    let high = here.1 in
    let below = block_below bsize block total some low high in
    rw is below
touched_below bsize total n (block ∷ blocks) some all (inr h) = touched_below bsize total n blocks some (All-tail (λ n. (1 ≤ n) × (n ≤ total)) block blocks all) h

pub touched_small : (bsize total n : ℕ) (blocks : List ℕ) → All (λ n. (1 ≤ n) × (n ≤ total)) blocks → In n (map (data_block bsize) blocks) → n < total
touched_small bsize total n [] all h = absurd h
touched_small bsize total n (block ∷ blocks) all (inl is) =
    let here = All-head (λ n. (1 ≤ n) × (n ≤ total)) block blocks all in
    let low = here.0 in
    let high = here.1 in
    let less : (block - 1) / (8 * bsize) ≤ block - 1 = div-le_self (block - 1) (8 * bsize) in
    omega arith
touched_small bsize total n (block ∷ blocks) all (inr h) = touched_small bsize total n blocks (All-tail (λ n. (1 ≤ n) × (n ≤ total)) block blocks all) h

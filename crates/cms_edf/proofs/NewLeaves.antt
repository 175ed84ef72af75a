-- The data blocks of a directory that an update leaves: the new numbers, and those that stay.
use Rattle.std.proofs.Common.{◌≡◌, ◌⊎◌, inl, inr, ⊎_elim, ℕ, zero, suc, ◌+◌, ◌-◌, ◌^◌, ◌<◌, ◌≤◌, true, false, List, [], ◌∷◌, ◌++◌, length, map, take, drop, get_or, refl, sym, ◌∙◌, ap, subst, arith, length-append, drop_of_length-le}
use Rattle.std.specs.Prelude.{◌==◌, slice_set, Ok, Err}
use Rattle.std.specs.List.Sorted.{IsBinarySearchResult, IsStrictlyIncreasing}
use Rattle.std.specs.Ordering.{nat_cmp}
use Rattle.std.proofs.Math.Nat.{pow-zero}
use Rattle.std.proofs.lemmas.List.Sorted.{searched}
use Rattle.std.proofs.lemmas.Bool.{cases_Bool, cases_lt, cases_eq, eq-eqb, eqb-true, false_from_ne_true}
use Rattle.std.proofs.lemmas.List.{drop_more, ext_get_or, get_or-append_right, get_or-set_other, get_or-set_same, get_or-take, get_or_append_left, length-map, length-set, length-take-le}
use Rattle.cms_model.specs.Lists.{In, holds, times}
use Rattle.cms_model.specs.SharedTrees.{MayBeWritten, any_within, fresh_on, is_kept}
use Rattle.cms_model.specs.Sizes.{levels, pointer_count}
use Rattle.cms_model.proofs.Quotients.{up_some}
use Rattle.cms_model.proofs.Shapes.{Needs, levels_needs}
use Rattle.cms_model.proofs.Repeats.{bit, hit, miss, held, held_from, in_from, in_held}
use Rattle.cms_model.proofs.WrittenBlocks.{ascending_once, behind_higher, leaf_kept, leaf_written, rest_ascends, written_few}
use Rattle.cms_tree.specs.Builds.{root_of}
use Rattle.cms_tree.specs.Levels.{over_count}
use Rattle.cms_tree.specs.Paths.{numbered}
use Rattle.cms_tree.proofs.ClimbSteps.{over_all}
use Rattle.cms_tree.proofs.Own.{in_at}
use Rattle.cms_tree.proofs.Paths.{get-numbered, length-numbered}
use Rattle.cms_held.specs.Systems.{TreePart}
use Rattle.cms_edf.specs.NewDirectories.{GoesOn, NewDirectory, leaves_over}
use Rattle.cms_edf.proofs.SharedTaken.{some_written}

clash : true ≡ false → ⊥
clash e = cc

-- ---- how many of ascending numbers are below one

unfoldable below : List ℕ → ℕ → ℕ
below xs zero = 0
below xs (suc n) = below xs n + times n xs

above_x : (x : ℕ) (xs : List ℕ) (n : ℕ) → n ≤ x → below (x ∷ xs) n ≡ below xs n
unfolding below times
above_x x xs zero high = refl
above_x x xs (suc n) high =
    let rest = above_x x xs n (omega arith) in
    let other : bit (n == x) ≡ 0 = miss (n == x) (false_from_ne_true (n == x) (λ same. omega (arith, eqb-true n x same))) in
    omega arith

below_x : (x : ℕ) (xs : List ℕ) (n : ℕ) → x < n → below (x ∷ xs) n ≡ suc (below xs n)
unfolding below times
below_x x xs zero less = absurd (omega arith)
below_x x xs (suc n) less = ⊎_elim
    (λ (last : (n == x) ≡ true).
    let is : n ≡ x = eqb-true n x last in
    let one : bit (n == x) ≡ 1 = hit (n == x) last in
    let rest = above_x x xs n (omega arith) in
    omega arith)
    (λ (other : (n == x) ≡ false).
    let none : bit (n == x) ≡ 0 = miss (n == x) other in
    let rest = below_x x xs n (apart other) in
    omega arith)
    (cases_Bool (n == x))
  where
    apart : (n == x) ≡ false → x < n
    apart other = ⊎_elim (λ (is : n ≡ x). absurd (clash (sym (eq-eqb n x is) ∙ other))) (λ (ne : n ≡ x → ⊥). omega arith) (cases_eq n x)

none_below : (n : ℕ) (xs : List ℕ) → ((x : ℕ) → In x xs → n ≤ x) → below xs n ≡ 0
unfolding below
none_below zero xs high = refl
none_below (suc n) xs high =
    let rest = none_below n xs (λ x there. let h = high x there in omega arith) in
    let none : times n xs ≡ 0 = ⊎_elim (λ (none : times n xs < 1). omega arith) (λ (some : 1 ≤ times n xs). let h = high n (in_from n xs (held_from n xs some)) in absurd (omega arith)) (cases_lt (times n xs) 1) in
    omega arith

-- below the one at a place are those before it
below_at : (xs : List ℕ) (i : ℕ) → IsStrictlyIncreasing xs → i < length xs → below xs (get_or xs i 0) ≡ i
below_at [] i ascends less = absurd (omega arith)
below_at (x ∷ xs) zero ascends less = above_x x xs x (omega arith) ∙ none_below x xs (λ y there. let h = behind_higher x xs ascends y there in omega arith)
below_at (x ∷ xs) (suc i) ascends less =
    below_x x xs (get_or xs i 0) (behind_higher x xs ascends (get_or xs i 0) (in_at xs i (omega arith))) ∙ ap suc (below_at xs i (rest_ascends x xs ascends) (omega arith))

-- so many data blocks take a new number
fresh_below : (before count n : ℕ) (written : List ℕ) → MayBeWritten before count written → n ≤ count → fresh_on true 1 before count written n ≡ below written n
unfolding fresh_on below
fresh_below before count zero w may within = refl
fresh_below before count (suc n) w may within =
    let rest = fresh_below before count n w may (omega arith) in
    ⊎_elim
    (λ (is : holds w n ≡ true).
    let off = leaf_written before count n w (omega arith) (in_from n w is) in
    let some = held n w is in
    let once = ascending_once w may.ascend n in
    rw off (omega arith))
    (λ (no : holds w n ≡ false).
    let isnt : In n w → ⊥ = λ there. clash (sym (in_held n w there) ∙ no) in
    let had : n < before = ⊎_elim (λ (lt : n < before). lt) (λ (ge : before ≤ n). absurd (isnt (may.grown n ge (omega arith)))) (cases_lt n before) in
    let on = leaf_kept before count n w had (omega arith) isnt in
    let none : times n w ≡ 0 = ⊎_elim (λ (none : times n w < 1). omega arith) (λ (some : 1 ≤ times n w). absurd (clash (sym (held_from n w some) ∙ no))) (cases_lt (times n w) 1) in
    rw on (omega arith))
    (cases_Bool (holds w n))

-- ---- the new numbers and the old ones

pub leaves_long : (old : List ℕ) (count : ℕ) (written numbers : List ℕ) → length (leaves_over old count written numbers) ≡ count
leaves_long old count written numbers = length-numbered true 1 (length old) count written old numbers count

pub long_is : (old : List ℕ) (count : ℕ) (part : TreePart) (numbers pointers : List ℕ) (d : NewDirectory)
    → record { tree = record { leaves = leaves_over old count part.leaves numbers; pointers = pointers }; part = part } ≡ d → length d.tree.leaves ≡ count
long_is old count part numbers pointers d is = ap (λ (x : NewDirectory). length x.tree.leaves) (sym is) ∙ leaves_long old count part.leaves numbers

pub leaf_new : (old : List ℕ) (count : ℕ) (written numbers : List ℕ) (i : ℕ) → MayBeWritten (length old) count written → i < length written
    → get_or (leaves_over old count written numbers) (get_or written i 0) 0 ≡ get_or numbers i 0
leaf_new old count written numbers i may less =
    let n = get_or written i 0 in
    let there = in_at written i less in
    let within = may.within n there in
    let off = leaf_written (length old) count n written within there in
    let place = fresh_below (length old) count n written may (omega arith) ∙ below_at written i may.ascend less in
    get-numbered true 1 (length old) count written old numbers count n within ∙ rw (off, place) refl

-- the numbers that are written are those of the written places
pub numbers_are : (old : List ℕ) (count : ℕ) (written numbers : List ℕ) → MayBeWritten (length old) count written → length written ≤ length numbers
    → take (length written) numbers ≡ map (λ j. get_or (leaves_over old count written numbers) j 0) written
numbers_are old count written numbers may enough =
    let f : ℕ → ℕ = λ (j : ℕ). get_or (leaves_over old count written numbers) j 0 in
    let long = length-take-le (length written) numbers enough in
    let more : length (map f written) ≡ length written = length-map written f in
    ext_get_or 0 (take (length written) numbers) (map f written) (omega arith) (λ i less.
    get_or-take (length written) numbers i 0 (omega arith) ∙ (sym (leaf_new old count written numbers i may (omega arith)) ∙ sym (mapped f written i (omega arith))))
  where
    mapped : (f : ℕ → ℕ) (xs : List ℕ) (i : ℕ) → i < length xs → get_or (map f xs) i 0 ≡ f (get_or xs i 0)
    mapped f [] i less = absurd (omega arith)
    mapped f (x ∷ xs) zero less = refl
    mapped f (x ∷ xs) (suc i) less = mapped f xs i (omega arith)

-- ---- the new numbers are put among those that are held

-- a list with a new length, at most one more
pub record IsResized (old new : List ℕ) (count : ℕ) : Type 0 where
  pub long : length new ≡ count
  pub stay : (j : ℕ) → j < length old → j < count → get_or new j 0 ≡ get_or old j 0

pub resized_same : (old mid new : List ℕ) (count : ℕ) → mid ≡ old → count ≤ length old → new ≡ take count mid → IsResized old new count
resized_same old mid new count same few is =
    let all : new ≡ take count old = is ∙ ap (take count) same in
    record {
      long = ap (λ (l : List ℕ). length l) all ∙ length-take-le count old few;
      stay = λ j had less. ap (λ (l : List ℕ). get_or l j 0) all ∙ get_or-take count old j 0 less;
    }

pub resized_more : (old mid new : List ℕ) (count : ℕ) → mid ≡ old ++ 0 ∷ [] → count ≤ length old + 1 → new ≡ take count mid → IsResized old new count
resized_more old mid new count more few is =
    let all : new ≡ take count (old ++ 0 ∷ []) = is ∙ ap (take count) more in
    let long = length-append old (0 ∷ []) in
    record {
      long = ap (λ (l : List ℕ). length l) all ∙ length-take-le count (old ++ 0 ∷ []) (omega arith);
      stay = λ j had less. ap (λ (l : List ℕ). get_or l j 0) all ∙ (get_or-take count (old ++ 0 ∷ []) j 0 less ∙ get_or_append_left old (0 ∷ []) 0 j had);
    }

-- so many of them were put
pub record IsPut (leaves written held : List ℕ) (at : ℕ) : Type 0 where
  pub long : length held ≡ length leaves
  pub each : (j : ℕ) → j < length leaves → (get_or held j 0 ≡ get_or leaves j 0) ⊎ In j (drop at written)

-- before the first, where the list has its new length
pub put_none : (d : NewDirectory) (old held : List ℕ) → GoesOn old d → length held ≡ length d.tree.leaves
    → ((j : ℕ) → j < length old → j < length d.tree.leaves → get_or held j 0 ≡ get_or old j 0) → IsPut d.tree.leaves d.part.leaves held 0
put_none d old held goes long stay = record {
  long = long;
  each = λ j less. ⊎_elim
      (λ (is : holds d.part.leaves j ≡ true). inr (in_from j d.part.leaves is))
      (λ (no : holds d.part.leaves j ≡ false).
      let isnt : In j d.part.leaves → ⊥ = λ there. clash (sym (in_held j d.part.leaves there) ∙ no) in
      let had : j < length old = ⊎_elim (λ (lt : j < length old). lt) (λ (ge : length old ≤ j). absurd (isnt (goes.may.grown j ge less))) (cases_lt j (length old)) in
      inl (stay j had less ∙ sym (goes.same j less isnt)))
      (cases_Bool (holds d.part.leaves j));
}

pub put_one : (leaves written held held' : List ℕ) (at : ℕ) → IsPut leaves written held at → at < length written
    → held' ≡ slice_set held (get_or written at 0) (get_or leaves (get_or written at 0) 0) → IsPut leaves written held' (at + 1)
put_one leaves written held held' at p less is =
    let n = get_or written at 0 in
    let v = get_or leaves n 0 in
    record {
      long = ap (λ (l : List ℕ). length l) is ∙ (length-set held n v ∙ p.long);
      each = λ j below. ⊎_elim
          (λ (same : j ≡ n). inl (ap (λ (l : List ℕ). get_or l j 0) is
          ∙ (ap (λ (k : ℕ). get_or (slice_set held n v) k 0) same ∙ (get_or-set_same held n v 0 (let l = p.long in omega arith) ∙ ap (λ (k : ℕ). get_or leaves k 0) (sym same)))))
          (λ (other : j ≡ n → ⊥). ⊎_elim
          (λ (done : get_or held j 0 ≡ get_or leaves j 0). inl (ap (λ (l : List ℕ). get_or l j 0) is ∙ (get_or-set_other held n j v 0 other ∙ done)))
          (λ (there : In j (drop at written)). inr (behind j other (subst (In j) (drop_more written at 0 less) there)))
          (p.each j below))
          (cases_eq j n);
    }
  where
    behind : (j : ℕ) → (j ≡ get_or written at 0 → ⊥) → In j (get_or written at 0 ∷ drop (at + 1) written) → In j (drop (at + 1) written)
    behind j other (inl same) = absurd (other same)
    behind j other (inr more) = more

pub put_all : (leaves written held : List ℕ) (at : ℕ) → IsPut leaves written held at → length written ≤ at → held ≡ leaves
put_all leaves written held at p past =
    let none : drop at written ≡ [] = drop_of_length-le written past in
    ext_get_or 0 held leaves p.long (λ j less. ⊎_elim (λ (done : get_or held j 0 ≡ get_or leaves j 0). done)
    (λ (there : In j (drop at written)). absurd (subst (In j) none there)) (p.each j (let l = p.long in omega arith)))

-- where nothing was held
pub leaves_first : (old written numbers : List ℕ) (origin : ℕ) → old ≡ [] → written ≡ 0 ∷ [] → numbers ≡ origin ∷ [] → leaves_over old 1 written numbers ≡ origin ∷ []
unfolding numbered is_kept fresh_on any_within
leaves_first old written numbers origin none zero' one =
    let e : leaves_over [] 1 (0 ∷ []) (origin ∷ []) ≡ origin ∷ [] = refl in
    (λ i. leaves_over (none i) 1 (zero' i) (one i)) ∙ e

-- ---- a place is looked for

pub read_at : (l : List ℕ) (i x : ℕ) → i < length l → x ≡ get_or l i x → x ≡ get_or l i 0
read_at [] i x less is = absurd (omega arith)
read_at (y ∷ ys) zero x less is = is
read_at (y ∷ ys) (suc i) x less is = read_at ys i x (omega arith) is

rises : (xs : List ℕ) (i j : ℕ) → IsStrictlyIncreasing xs → i ≤ j → j < length xs → get_or xs i 0 ≤ get_or xs j 0
rises [] i j ascends low less = absurd (omega arith)
rises (x ∷ xs) zero zero ascends low less = omega arith
rises (x ∷ xs) zero (suc j) ascends low less = let h = behind_higher x xs ascends (get_or xs j 0) (in_at xs j (omega arith)) in omega arith
rises (x ∷ xs) (suc i) zero ascends low less = absurd (omega arith)
rises (x ∷ xs) (suc i) (suc j) ascends low less = rises xs i j (rest_ascends x xs ascends) (omega arith) (omega arith)

record StandsAt (n : ℕ) (xs : List ℕ) : Type 0 where
  k : ℕ
  less : k < length xs
  is : get_or xs k 0 ≡ n

stands : (n : ℕ) (xs : List ℕ) → In n xs → StandsAt n xs
stands n [] there = absurd there
stands n (x ∷ xs) (inl same) = record { k = 0; less = omega arith; is = sym same }
stands n (x ∷ xs) (inr more) = let s = stands n xs more in let less = s.less in record { k = suc s.k; less = omega arith; is = s.is }

-- it is found
pub record IsFoundAt (xs : List ℕ) (place at : ℕ) : Type 0 where
  pub less : at < length xs
  pub is : get_or xs at 0 ≡ place

pub found_at : (xs : List ℕ) (place at : ℕ) → IsStrictlyIncreasing xs → IsBinarySearchResult (λ y. nat_cmp y place) xs (Ok at) → IsFoundAt xs place at
found_at xs place at ascends r = let s = searched xs place (Ok at) r (λ i j low less. rises xs i j ascends low less) in record { less = s.0; is = s.1 }

-- or isn't there
pub not_there : (xs : List ℕ) (place at : ℕ) → IsStrictlyIncreasing xs → IsBinarySearchResult (λ y. nat_cmp y place) xs (Err at) → In place xs → ⊥
not_there xs place at ascends r there =
    let s = searched xs place (Err at) r (λ i j low less. rises xs i j ascends low less) in
    let here = stands place xs there in
    let is = here.is in
    ⊎_elim
    (λ (low : here.k < at). let less = s.1 here.k low in omega (arith, less, is))
    (λ (high : at ≤ here.k). let more = s.2 here.k high here.less in omega (arith, more, is))
    (cases_lt here.k at)

-- the new number at its place
pub leaf_found : (old : List ℕ) (count : ℕ) (written numbers xs : List ℕ) (place at x : ℕ) → MayBeWritten (length old) count written → length written ≤ length numbers → xs ≡ written
    → IsBinarySearchResult (λ y. nat_cmp y place) xs (Ok at) → x ≡ get_or numbers at x → x ≡ get_or (leaves_over old count written numbers) place 0
leaf_found old count written numbers xs place at x may enough same r is =
    let f = found_at written place at may.ascend (subst (λ (l : List ℕ). IsBinarySearchResult (λ y. nat_cmp y place) l (Ok at)) same r) in
    let less = f.less in
    read_at numbers at x (omega arith) is ∙ (sym (leaf_new old count written numbers at may less) ∙ ap (λ (n : ℕ). get_or (leaves_over old count written numbers) n 0) f.is)

-- ---- the root

last_of : (xs : List ℕ) (y : ℕ) (ys : List ℕ) → root_of xs (y ∷ ys) ≡ get_or (y ∷ ys) (length ys) 0
last_of xs y ys =
    let long = length-append xs (y ∷ ys) in
    let at : length (xs ++ y ∷ ys) - 1 - length xs ≡ length ys = omega arith in
    get_or-append_right xs (y ∷ ys) (length xs) (length (xs ++ y ∷ ys) - 1) 0 refl (omega arith) ∙ ap (λ (k : ℕ). get_or (y ∷ ys) k 0) at

one_of : (xs ys : List ℕ) → length xs ≡ 1 → length ys ≡ 1 → get_or xs 0 0 ≡ get_or ys 0 0 → xs ≡ ys
one_of xs ys one one' same = ext_get_or 0 xs ys (one ∙ sym one') (λ i less. let none : i ≡ 0 = omega arith in rw none same)

-- a tree without pointer blocks has one data block
no_pointers : (fan n : ℕ) → 2 ≤ fan → n < 2 ^ 32 → pointer_count fan n ≡ 0 → n ≤ 1
no_pointers fan n wide few none = by_levels (levels fan n) refl
  where
    by_levels : (k : ℕ) → levels fan n ≡ k → n ≤ 1
    by_levels zero is = let fits = (subst (Needs fan n) is (levels_needs fan n wide few)).fits in let unit = pow-zero fan in omega arith
    by_levels (suc l) is =
        let less = (subst (Needs fan n) is (levels_needs fan n wide few)).fewer l (omega arith) in
        let some = up_some n fan (omega arith) (omega arith) in
        let all : over_count fan (suc l) n ≡ pointer_count fan n = ap (λ (k : ℕ). over_count fan k n) (sym is) ∙ over_all fan n (omega arith) in
        absurd (omega arith)

-- the data blocks that are written tell it as well
pub root_is : (fan before : ℕ) (leaves written pointers numbers : List ℕ) → 2 ≤ fan → length leaves < 2 ^ 32 → 1 ≤ length leaves → MayBeWritten before (length leaves) written → In 0 written
    → length pointers ≡ pointer_count fan (length leaves) → numbers ≡ map (λ j. get_or leaves j 0) written → root_of numbers pointers ≡ root_of leaves pointers
root_is fan before leaves written [] numbers wide few some may first count is =
    let one = no_pointers fan (length leaves) wide few (sym count) in
    let most = written_few before (length leaves) written may in
    let least = some_written 0 written first in
    let long : length numbers ≡ length written = ap (λ (l : List ℕ). length l) is ∙ length-map written (λ (j : ℕ). get_or leaves j 0) in
    ap (λ (l : List ℕ). root_of l []) (one_of numbers leaves (omega arith) (omega arith) (ap (λ (l : List ℕ). get_or l 0 0) is ∙ head written least (may.within (get_or written 0 0) (in_at written 0 least))))
  where
    head : (ws : List ℕ) → 1 ≤ length ws → get_or ws 0 0 < length leaves → get_or (map (λ (j : ℕ). get_or leaves j 0) ws) 0 0 ≡ get_or leaves 0 0
    head [] some' below = absurd (omega arith)
    head (w ∷ ws) some' below = let none : w ≡ 0 = (let one = no_pointers fan (length leaves) wide few (sym count) in omega arith) in ap (λ (k : ℕ). get_or leaves k 0) none
root_is fan before leaves written (p ∷ ps) numbers wide few some may first count is = last_of numbers p ps ∙ sym (last_of leaves p ps)

-- The data blocks of a tree that are written, and those that are kept.
use Rattle.std.proofs.Common.{◌≡◌, inl, inr, ⊎_elim, ℕ, zero, suc, ◌+◌, ◌*◌, ◌<◌, ◌≤◌, min, Bool, true, false, not, List, [], ◌∷◌, length, refl, sym, ◌∙◌, ap, subst, arith, add-one}
use Rattle.std.specs.Prelude.{◌==◌, ◌&&◌}
use Rattle.std.specs.List.Sorted.{IsStrictlyIncreasing}
use Rattle.std.proofs.lemmas.Bool.{cases_Bool, cases_lt, cases_eq, eq-eqb, eqb-true, false_from_ne_true}
use Rattle.cms_model.specs.Lists.{In, holds, times}
use Rattle.cms_model.specs.SharedTrees.{MayBeWritten, any_within, fresh_on, is_kept}
use Rattle.cms_model.proofs.Repeats.{bit, hit, miss, held, held_from, in_from, in_held}
use Rattle.cms_model.proofs.SharedTrees.{within_has, within_met}

clash : true ≡ false → ⊥
clash e = cc

-- ---- data blocks that are kept

pub leaf_kept : (before count j : ℕ) (written : List ℕ) → j < before → j < count → (In j written → ⊥) → is_kept true 1 before count written j ≡ true
unfolding is_kept
leaf_kept before count j written had less isnt =
    let none : any_within (j * 1) (min ((j + 1) * 1) count) written ≡ false = false_from_ne_true (any_within (j * 1) (min ((j + 1) * 1) count) written)
    (λ some. let m = within_met (j * 1) (min ((j + 1) * 1) count) written some in
    let low = m.low in let high = m.high in
    let is : m.n ≡ j = omega arith in
    isnt (subst (λ (n : ℕ). In n written) is m.there)) in
    let same : (min ((j + 1) * 1) before == min ((j + 1) * 1) count) ≡ true = eq-eqb (min ((j + 1) * 1) before) (min ((j + 1) * 1) count) (omega arith) in
    rw (none, same) refl

pub leaf_written : (before count j : ℕ) (written : List ℕ) → j < count → In j written → is_kept true 1 before count written j ≡ false
unfolding is_kept
leaf_written before count j written less there =
    let some : any_within (j * 1) (min ((j + 1) * 1) count) written ≡ true = within_has (j * 1) (min ((j + 1) * 1) count) j written there (omega arith) (omega arith) in
    rw some (off (min ((j + 1) * 1) before == min ((j + 1) * 1) count))
  where
    off : (b : Bool) → (true && b && not true) ≡ false
    off true = refl
    off false = refl

-- ---- ascending numbers stand once

pub rest_ascends : (x : ℕ) (xs : List ℕ) → IsStrictlyIncreasing (x ∷ xs) → IsStrictlyIncreasing xs
rest_ascends x xs ascends k less = rw (add-one k) (rw (add-one (suc k)) at (ascends (suc k) (omega arith)))

-- those behind are higher
pub behind_higher : (x : ℕ) (xs : List ℕ) → IsStrictlyIncreasing (x ∷ xs) → (n : ℕ) → In n xs → x < n
behind_higher x [] ascends n there = absurd there
behind_higher x (y ∷ ys) ascends n (inl is) = let next : x < y = ascends 0 (omega arith) in omega arith
behind_higher x (y ∷ ys) ascends n (inr more) =
    let next : x < y = ascends 0 (omega arith) in
    let deeper = behind_higher y ys (rest_ascends x (y ∷ ys) ascends) n more in
    omega arith

pub ascending_once : (xs : List ℕ) → IsStrictlyIncreasing xs → (n : ℕ) → times n xs ≤ 1
unfolding times
ascending_once [] ascends n = omega arith
ascending_once (x ∷ xs) ascends n =
    let rest = ascending_once xs (rest_ascends x xs ascends) n in
    ⊎_elim
    (λ (same : (n == x) ≡ true).
    let is : n ≡ x = eqb-true n x same in
    let none : times n xs ≡ 0 = ⊎_elim
    (λ (none : times n xs < 1). omega arith)
    (λ (some : 1 ≤ times n xs). let more = behind_higher x xs ascends n (in_from n xs (held_from n xs some)) in absurd (omega arith))
    (cases_lt (times n xs) 1) in
    let one = hit (n == x) same in
    omega arith)
    (λ (other : (n == x) ≡ false). let none = miss (n == x) other in omega arith)
    (cases_Bool (n == x))

-- ---- how many of the data blocks are written

-- how often the numbers below one stand there
pub upto : List ℕ → ℕ → ℕ
upto xs zero = 0
upto xs (suc n) = upto xs n + times n xs

upto_none : (n : ℕ) → upto [] n ≡ 0
unfolding upto times
upto_none zero = refl
upto_none (suc n) = let rest = upto_none n in omega arith

upto_high : (x : ℕ) (xs : List ℕ) (n : ℕ) → n ≤ x → upto (x ∷ xs) n ≡ upto xs n
unfolding upto times
upto_high x xs zero high = refl
upto_high x xs (suc n) high =
    let rest = upto_high x xs n (omega arith) in
    let other : bit (n == x) ≡ 0 = miss (n == x) (false_from_ne_true (n == x) (λ same. omega (arith, eqb-true n x same))) in
    omega arith

upto_low : (x : ℕ) (xs : List ℕ) (n : ℕ) → x < n → upto (x ∷ xs) n ≡ suc (upto xs n)
unfolding upto times
upto_low x xs zero less = absurd (omega arith)
upto_low x xs (suc n) less = ⊎_elim
    (λ (last : (n == x) ≡ true).
    let is : n ≡ x = eqb-true n x last in
    let one : bit (n == x) ≡ 1 = hit (n == x) last in
    let rest = upto_high x xs n (omega arith) in
    omega arith)
    (λ (other : (n == x) ≡ false).
    let none : bit (n == x) ≡ 0 = miss (n == x) other in
    let rest = upto_low x xs n (apart other) in
    omega arith)
    (cases_Bool (n == x))
  where
    apart : (n == x) ≡ false → x < n
    apart other = ⊎_elim (λ (is : n ≡ x). absurd (clash (sym (eq-eqb n x is) ∙ other))) (λ (ne : n ≡ x → ⊥). omega arith) (cases_eq n x)

pub upto_all : (xs : List ℕ) (n : ℕ) → ((x : ℕ) → In x xs → x < n) → upto xs n ≡ length xs
upto_all [] n all = upto_none n
upto_all (x ∷ xs) n all = upto_low x xs n (all x (inl refl)) ∙ ap suc (upto_all xs n (λ y there. all y (inr there)))

pub fresh_leaves : (before count n : ℕ) (written : List ℕ) → MayBeWritten before count written → n ≤ count → fresh_on true 1 before count written n ≡ upto written n
unfolding fresh_on upto
fresh_leaves before count zero written w within = refl
fresh_leaves before count (suc n) written w within =
    let rest = fresh_leaves before count n written w (omega arith) in
    ⊎_elim
    (λ (is : holds written n ≡ true).
    let off = leaf_written before count n written (omega arith) (in_from n written is) in
    let some = held n written is in
    let once = ascending_once written w.ascend n in
    rw off (omega arith))
    (λ (no : holds written n ≡ false).
    let isnt : In n written → ⊥ = λ there. clash (sym (in_held n written there) ∙ no) in
    let had : n < before = ⊎_elim (λ (lt : n < before). lt) (λ (ge : before ≤ n). absurd (isnt (w.grown n ge (omega arith)))) (cases_lt n before) in
    let on = leaf_kept before count n written had (omega arith) isnt in
    let none : times n written ≡ 0 = ⊎_elim (λ (none : times n written < 1). omega arith) (λ (some : 1 ≤ times n written). absurd (clash (sym (held_from n written some) ∙ no))) (cases_lt (times n written) 1) in
    rw on (omega arith))
    (cases_Bool (holds written n))

upto_few : (xs : List ℕ) (n : ℕ) → ((x : ℕ) → times x xs ≤ 1) → upto xs n ≤ n
unfolding upto
upto_few xs zero once = omega arith
upto_few xs (suc n) once = let rest = upto_few xs n once in let here = once n in omega arith

pub written_few : (before count : ℕ) (written : List ℕ) → MayBeWritten before count written → length written ≤ count
written_few before count written w = let few = upto_few written count (ascending_once written w.ascend) in omega (arith, upto_all written count w.within)

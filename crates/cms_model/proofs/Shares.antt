-- The blocks of a range are marked and met, marked and lost, or free.
use Rattle.std.proofs.Common.{◌≡◌, ◌⊎◌, inl, inr, ⊎_elim, ℕ, zero, suc, ◌+◌, ◌<◌, ◌≤◌, List, [], ◌∷◌, length, if◌then◌else◌, Bool, true, false, not, refl, sym, ◌∙◌, arith}
use Rattle.std.specs.Prelude.{◌&&◌, ◌==◌}
use Rattle.std.proofs.lemmas.Bool.{cases_Bool, cases_eq, eqb-true, eq-eqb}
use Rattle.cms_model.specs.Lists.{In, holds, times}
use Rattle.cms_model.specs.Maps.{is_marked, lost_count}
use Rattle.cms_model.specs.LawsSizes.{unmarked_count}
use Rattle.cms_model.proofs.Repeats.{held, held_from, bit, hit, miss}

-- how often the numbers of a range stand there
abbrev pub range_times : List ℕ → ℕ → ℕ → ℕ
range_times xs n zero = 0
range_times xs n (suc more) = times n xs + range_times xs (n + 1) more

abbrev free_bit : Bool → ℕ
free_bit marked = if marked then 0 else 1

bits_add : (marked met : Bool) (t : ℕ) → t ≤ 1 → (met ≡ true → 1 ≤ t) → (met ≡ false → t ≡ 0) → (met ≡ true → marked ≡ true) → free_bit marked + bit (marked && not met) + t ≡ 1
bits_add true true t one if_met if_not is = let a = if_met refl in omega arith
bits_add true false t one if_met if_not is = let a = if_not refl in omega arith
bits_add false true t one if_met if_not is = let a : false ≡ true = is refl in absurd (cc)
bits_add false false t one if_met if_not is = let a = if_not refl in omega arith

none_held : (n : ℕ) (xs : List ℕ) → times n xs ≤ 1 → holds xs n ≡ false → times n xs ≡ 0
none_held n xs one unheld = go (times n xs) refl one
  where
    here : holds xs n ≡ true → ⊥
    here is = let z : true ≡ false = sym is ∙ unheld in cc

    go : (t : ℕ) → times n xs ≡ t → t ≤ 1 → times n xs ≡ 0
    go zero e le = e
    go (suc t) e le = absurd (here (held_from n xs (omega arith)))

-- free, lost and met make all
pub shares : (bytes met : List ℕ) (n more : ℕ) → ((k : ℕ) → times k met ≤ 1) → ((k : ℕ) → n ≤ k → k < n + more → holds met k ≡ true → is_marked bytes k ≡ true)
    → unmarked_count bytes n more + lost_count bytes met n more + range_times met n more ≡ more
unfolding unmarked_count lost_count
shares bytes met n zero one marked = omega arith
shares bytes met n (suc more) one marked =
    let here = bits_add (is_marked bytes n) (holds met n) (times n met) (one n) (held n met) (none_held n met (one n)) (marked n (omega arith) (omega arith)) in
    let deeper = shares bytes met (n + 1) more one (λ k le less. marked k (omega arith) (omega arith)) in
    omega arith

-- ---- how many of a list lie in a range

pub not_eq : (n x : ℕ) → (n ≡ x → ⊥) → bit (n == x) ≡ 0
not_eq n x ne = ⊎_elim (λ e. absurd (ne (eqb-true n x e))) (λ e. miss (n == x) e) (cases_Bool (n == x))

never : (x n more : ℕ) → (x < n) ⊎ (n + more ≤ x) → range_times (x ∷ []) n more ≡ 0
unfolding times
never x n zero out = refl
never x n (suc more) out =
    let none : bit (n == x) ≡ 0 = not_eq n x (λ is. ⊎_elim (λ (lt : x < n). omega arith) (λ (ge : n + suc more ≤ x). omega arith) out) in
    let deeper = never x (n + 1) more (⊎_elim (λ (lt : x < n). inl (omega arith)) (λ (ge : n + suc more ≤ x). inr (omega arith)) out) in
    omega arith

once : (x n more : ℕ) → n ≤ x → x < n + more → range_times (x ∷ []) n more ≡ 1
unfolding times
once x n zero low high = absurd (omega arith)
once x n (suc more) low high = ⊎_elim
    (λ (is : n ≡ x). let one : bit (n == x) ≡ 1 = hit (n == x) (eq-eqb n x is) in
    let past = never x (n + 1) more (inl (omega arith)) in omega arith)
    (λ ne. let none : bit (n == x) ≡ 0 = not_eq n x ne in
    let deeper = once x (n + 1) more (lower ne) (omega arith) in omega arith)
    (cases_eq n x)
  where
    lower : (n ≡ x → ⊥) → n + 1 ≤ x
    lower ne = omega arith

range_cons : (x : ℕ) (xs : List ℕ) (n more : ℕ) → range_times (x ∷ xs) n more ≡ range_times (x ∷ []) n more + range_times xs n more
unfolding times
range_cons x xs n zero = omega arith
range_cons x xs n (suc more) = let deeper = range_cons x xs (n + 1) more in omega arith

range_nil : (n more : ℕ) → range_times [] n more ≡ 0
unfolding times
range_nil n zero = refl
range_nil n (suc more) = let deeper = range_nil (n + 1) more in omega arith

-- of a list with all its numbers in a range but one below it
pub range_all : (xs : List ℕ) (n more other : ℕ) → other < n → ((x : ℕ) → In x xs → ((n ≤ x) × (x < n + more)) ⊎ (x ≡ other)) → range_times xs n more + times other xs ≡ length xs
unfolding times
range_all [] n more other low all = omega (arith, range_nil n more)
range_all (x ∷ xs) n more other low all =
    let split = range_cons x xs n more in
    let deeper = range_all xs n more other low (λ y in'. all y (inr in')) in
    ⊎_elim
    (λ (within : (n ≤ x) × (x < n + more)).
    let first = within.0 in
    let one = once x n more within.0 within.1 in
    let none : bit (other == x) ≡ 0 = not_eq other x (λ is. omega arith) in
    omega arith)
    (λ (is : x ≡ other).
    let none = never x n more (inl (omega arith)) in
    let one : bit (other == x) ≡ 1 = hit (other == x) (eq-eqb other x (sym is)) in
    omega arith)
    (all x (inl refl))

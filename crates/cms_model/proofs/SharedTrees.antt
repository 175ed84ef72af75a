-- Trees that share blocks with the tree before.
use Rattle.std.proofs.Common.{◌≡◌, inl, inr, ⊎_elim, ℕ, zero, suc, ◌+◌, ◌-◌, ◌*◌, ◌^◌, ◌<◌, ◌≤◌, min, Bool, true, false, not, if◌then◌else◌, List, [], ◌∷◌, length, refl, sym, ◌∙◌, ap, subst, arith, mul-le-mul_right}
use Rattle.std.specs.Prelude.{◌==◌, ◌&&◌, ◌||◌, nat_le, nat_lt}
use Rattle.std.proofs.Math.Nat.{one-le-pow}
use Rattle.std.proofs.lemmas.Bool.{cases_Bool, cases_lt, and_from, and_parts, le-leb, lt-ltb, leb-true, ltb-true, eqb-true, eq-eqb}
use Rattle.cms_fields.specs.Numbers.{up}
use Rattle.cms_model.specs.Lists.{In}
use Rattle.cms_model.specs.Sizes.{levels, pointers_to, pointer_count, tree_size}
use Rattle.cms_model.specs.SharedTrees.{any_within, is_kept, fresh_on, fresh_to, fresh_count, AllIsWhole, TakesNoMore, BehindIsWritten}
use Rattle.cms_model.proofs.Quotients.{up_spec}

clash : true ≡ false → ⊥
clash e = cc

-- ---- numbers within

pub within_has : (from to n : ℕ) (ts : List ℕ) → In n ts → from ≤ n → n < to → any_within from to ts ≡ true
unfolding any_within
within_has from to n [] there low high = absurd there
within_has from to n (t ∷ ts) (inl is) low high = ap (λ (b : Bool). b || any_within from to ts) (and_from (nat_le from t) (nat_lt t to) (le-leb from t (omega (arith, is))) (lt-ltb t to (omega (arith, is))))
within_has from to n (t ∷ ts) (inr more) low high = either (nat_le from t && nat_lt t to) (within_has from to n ts more low high)
  where
    either : (b : Bool) → any_within from to ts ≡ true → (b || any_within from to ts) ≡ true
    either true h = refl
    either false h = h

-- a number of them
pub record Met (from to : ℕ) (ts : List ℕ) : Type 0 where
  pub n : ℕ
  pub there : In n ts
  pub low : from ≤ n
  pub high : n < to

pub within_met : (from to : ℕ) (ts : List ℕ) → any_within from to ts ≡ true → Met from to ts
unfolding any_within
within_met from to [] is = absurd (clash (sym is))
within_met from to (t ∷ ts) is = ⊎_elim
    (λ (here : (nat_le from t && nat_lt t to) ≡ true). let both = and_parts (nat_le from t) (nat_lt t to) here in
    record { n = t; there = inl refl; low = leb-true from t both.0; high = ltb-true t to both.1 })
    (λ (not' : (nat_le from t && nat_lt t to) ≡ false).
    let more = within_met from to ts (ap (λ (b : Bool). b || any_within from to ts) (sym not') ∙ is) in
    record { n = more.n; there = inr more.there; low = more.low; high = more.high })
    (cases_Bool (nat_le from t && nat_lt t to))

-- ---- where all is written

none_kept : (had : Bool) (size before count : ℕ) (written : List ℕ) (j : ℕ) → 1 ≤ size → j * size < count → ((n : ℕ) → n < count → In n written) → is_kept had size before count written j ≡ false
unfolding is_kept
none_kept had size before count written j some less all =
    let here = within_has (j * size) (min ((j + 1) * size) count) (j * size) written (all (j * size) less) (omega arith) (omega arith) in
    rw here (go had (min ((j + 1) * size) before == min ((j + 1) * size) count))
  where
    go : (a b : Bool) → (a && b && false) ≡ false
    go true true = refl
    go true false = refl
    go false true = refl
    go false false = refl

all_fresh : (had : Bool) (size before count : ℕ) (written : List ℕ) (m : ℕ) → 1 ≤ size → m ≤ up count size → ((n : ℕ) → n < count → In n written) → fresh_on had size before count written m ≡ m
unfolding fresh_on
all_fresh had size before count written zero some few all = refl
all_fresh had size before count written (suc m) some few all =
    let high = (up_spec count size some).1 in
    let wide : suc m * size ≤ up count size * size = mul-le-mul_right size few in
    let none = none_kept had size before count written m some (omega arith) all in
    rw none (let h = all_fresh had size before count written m some (omega arith) all in omega arith)

all_to : (fan before count : ℕ) (written : List ℕ) (k : ℕ) → 2 ≤ fan → ((n : ℕ) → n < count → In n written) → fresh_to fan before count written k ≡ pointers_to fan count k
unfolding fresh_to pointers_to
all_to fan before count written zero wide all = refl
all_to fan before count written (suc i) wide all =
    let h = all_to fan before count written i wide all in
    let f = all_fresh (nat_le (suc i) (levels fan before)) (fan ^ suc i) before count written (up count (fan ^ suc i)) (one-le-pow (suc i) fan (omega arith)) (omega arith) all in
    omega arith

pub all_is_whole : AllIsWhole
unfolding fresh_count pointer_count
all_is_whole fan before count written wide all = ap (λ (n : ℕ). length written + n) (all_to fan before count written (levels fan count) wide all)

-- ---- no more than before and what is written

-- a block that is kept was there
pub kept_inside : (had : Bool) (size before count : ℕ) (written : List ℕ) (m : ℕ) → 1 ≤ size → suc m ≤ up count size → is_kept had size before count written m ≡ true → (had ≡ true) × (m < up before size)
unfolding is_kept
kept_inside had size before count written m some few is =
    let high = (up_spec count size some).1 in
    let wide : suc m * size ≤ up count size * size = mul-le-mul_right size few in
    let a = and_parts (had && (min ((m + 1) * size) before == min ((m + 1) * size) count)) (not (any_within (m * size) (min ((m + 1) * size) count) written)) is in
    let b = and_parts had (min ((m + 1) * size) before == min ((m + 1) * size) count) a.0 in
    let same = eqb-true (min ((m + 1) * size) before) (min ((m + 1) * size) count) b.1 in
    let low = (up_spec before size some).0 in (
      b.0,
      ⊎_elim (λ (less : m < up before size). less)
          (λ (ge : up before size ≤ m). let under : up before size * size ≤ m * size = mul-le-mul_right size ge in absurd (omega arith)) (cases_lt m (up before size)),
    )

few_kept : (had : Bool) (size before count : ℕ) (written : List ℕ) (m : ℕ) → 1 ≤ size → m ≤ up count size
    → m ≤ fresh_on had size before count written m + (if had then min m (up before size) else 0)
unfolding fresh_on
few_kept had size before count written zero some few = omega arith
few_kept had size before count written (suc m) some few =
    go (is_kept had size before count written m) refl (few_kept had size before count written m some (omega arith))
  where
    go : (b : Bool) → is_kept had size before count written m ≡ b → m ≤ fresh_on had size before count written m + (if had then min m (up before size) else 0)
        → suc m ≤ fresh_on had size before count written m + (if b then 0 else 1) + (if had then min (suc m) (up before size) else 0)
    go false is h = more had h
      where
        more : (d : Bool) → m ≤ fresh_on had size before count written m + (if d then min m (up before size) else 0)
            → suc m ≤ fresh_on had size before count written m + 1 + (if d then min (suc m) (up before size) else 0)
        more true h' = omega arith
        more false h' = omega arith
    go true is h =
        let x = kept_inside had size before count written m some few is in
        let less = x.1 in
        let h' : m ≤ fresh_on had size before count written m + min m (up before size) = subst (λ (d : Bool). m ≤ fresh_on had size before count written m + (if d then min m (up before size) else 0)) x.0 h in
        subst (λ (d : Bool). suc m ≤ fresh_on had size before count written m + 0 + (if d then min (suc m) (up before size) else 0)) (sym x.0) (omega arith)

-- of the levels that the tree before has too
unfoldable both : ℕ → ℕ → ℕ → ℕ
both fan before zero = 0
both fan before (suc i) = both fan before i + (if nat_le (suc i) (levels fan before) then up before (fan ^ suc i) else 0)

both_few : (fan before count : ℕ) (written : List ℕ) (k : ℕ) → 2 ≤ fan → pointers_to fan count k ≤ fresh_to fan before count written k + both fan before k
unfolding fresh_to pointers_to both
both_few fan before count written zero wide = omega arith
both_few fan before count written (suc i) wide =
    let h = both_few fan before count written i wide in
    let f = few_kept (nat_le (suc i) (levels fan before)) (fan ^ suc i) before count written (up count (fan ^ suc i)) (one-le-pow (suc i) fan (omega arith)) (omega arith) in
    let g = at (nat_le (suc i) (levels fan before)) (up count (fan ^ suc i)) (up before (fan ^ suc i)) in
    omega arith
  where
    at : (d : Bool) (a b : ℕ) → (if d then min a b else 0) ≤ (if d then b else 0)
    at true a b = omega arith
    at false a b = omega arith

more_to : (fan before a d : ℕ) → pointers_to fan before a ≤ pointers_to fan before (a + d)
unfolding pointers_to
more_to fan before a zero = let e : a + 0 ≡ a = omega arith in rw e (omega arith)
more_to fan before a (suc d) = let e : a + suc d ≡ suc (a + d) = omega arith in rw e (let h = more_to fan before a d in omega arith)

both_upto : (fan before k : ℕ) → both fan before k ≤ pointers_to fan before (min k (levels fan before))
unfolding pointers_to both
both_upto fan before zero = omega arith
both_upto fan before (suc i) = ⊎_elim
    (λ (is : nat_le (suc i) (levels fan before) ≡ true).
    let le = leb-true (suc i) (levels fan before) is in
    let a : min (suc i) (levels fan before) ≡ suc i = omega arith in
    let b : min i (levels fan before) ≡ i = omega arith in
    let h : both fan before i ≤ pointers_to fan before i = subst (λ (n : ℕ). both fan before i ≤ pointers_to fan before n) b (both_upto fan before i) in
    rw (is, a) (omega arith))
    (λ (is : nat_le (suc i) (levels fan before) ≡ false).
    let h = both_upto fan before i in
    let low = min i (levels fan before) in
    let d = min (suc i) (levels fan before) - low in
    let e : low + d ≡ min (suc i) (levels fan before) = omega arith in
    let m : pointers_to fan before low ≤ pointers_to fan before (min (suc i) (levels fan before)) = subst (λ (n : ℕ). pointers_to fan before low ≤ pointers_to fan before n) e (more_to fan before low d) in
    rw is (omega arith))
    (cases_Bool (nat_le (suc i) (levels fan before)))

pub takes_no_more : TakesNoMore
unfolding fresh_count pointer_count tree_size
takes_no_more fan before count written wide small small' fits =
    let k = levels fan count in
    let l = levels fan before in
    let low = min k l in
    let e : low + (l - low) ≡ l = omega arith in
    let m : pointers_to fan before low ≤ pointers_to fan before l = subst (λ (n : ℕ). pointers_to fan before low ≤ pointers_to fan before n) e (more_to fan before low (l - low)) in
    let below = both_few fan before count written k wide in
    let rest = both_upto fan before k in
    omega arith

-- ---- an addition

pub behind_is_written : BehindIsWritten
unfolding is_kept
behind_is_written fan i before count kept j written wide le le' more less high low = (
  λ is.
      let top = min ((j + 1) * fan ^ i) count in
      let a = and_parts (true && (min ((j + 1) * fan ^ i) before == top)) (not (any_within (j * fan ^ i) top written)) is in
      let size = one-le-pow i fan (omega arith) in
      ⊎_elim (λ (bad : kept < top).
      let here : any_within (j * fan ^ i) top written ≡ true = within_has (j * fan ^ i) top (top - 1) written (low (top - 1) (omega arith) (omega arith)) (omega arith) (omega arith) in
      let turned : not (any_within (j * fan ^ i) top written) ≡ false = ap not here in
      absurd (clash (sym a.1 ∙ turned)))
      (λ (fine : top ≤ kept). fine) (cases_lt kept top),
  λ fits.
      let top = min ((j + 1) * fan ^ i) count in
      let none : any_within (j * fan ^ i) top written ≡ false = ⊎_elim
      (λ (some : any_within (j * fan ^ i) top written ≡ true).
      let m = within_met (j * fan ^ i) top written some in
      let low' = high m.n m.there in
      let up' = m.high in
      absurd (omega arith))
      (λ (none : any_within (j * fan ^ i) top written ≡ false). none)
      (cases_Bool (any_within (j * fan ^ i) top written)) in
      let same : (min ((j + 1) * fan ^ i) before == top) ≡ true = eq-eqb (min ((j + 1) * fan ^ i) before) top (omega arith) in
      rw (same, none) refl,
)

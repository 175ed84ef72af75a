-- A text without the bytes at its end that are one byte, from its front.
use Rattle.std.proofs.Common.{◌≡◌, ◌∙◌, ℕ, suc, zero, ◌+◌, ◌-◌, ◌<◌, ◌≤◌, Bool, true, false, ◌==◌, cond, List, [], ◌∷◌, ◌++◌, length, take, replicate, refl, ap, sym, arith, ⊎_elim}
use Rattle.std.specs.List.{prefix_len, suffix_len}
use Rattle.std.specs.Prelude.{reverse}
use Rattle.std.proofs.lemmas.Bool.{eq-eqb, eqb-true, cases_Bool, cases_lt}
use Rattle.std.proofs.lemmas.Grind.{reverse_onto}
use Rattle.std.proofs.lemmas.List.{length-reverse, length-take-le}
use Rattle.std.proofs.lemmas.List.Folds.{prefix_len-append}
use Rattle.std.proofs.lemmas.List.Sums.{suffix_len-le-length}
use Rattle.cms_text.specs.Texts.{without_trailing}

-- a byte before what is kept of the rest
abbrev pub kept_before : ℕ → ℕ → List ℕ → List ℕ
kept_before b x [] = cond (x == b) [] (x ∷ [])
kept_before b x (y ∷ ys) = x ∷ y ∷ ys

-- the bytes without those at the end
abbrev pub strip : ℕ → List ℕ → List ℕ
strip b [] = []
strip b (x ∷ xs) = kept_before b x (strip b xs)

pub kept_front : (b x : ℕ) (t : List ℕ) → 0 < length t → kept_before b x t ≡ x ∷ t
kept_front b x [] some = absurd (omega arith)
kept_front b x (y ∷ ys) some = refl

suffix_more : (p : ℕ → Bool) (x : ℕ) (xs : List ℕ)
    → suffix_len p (x ∷ xs) ≡ cond (suffix_len p xs == length xs) (length xs + prefix_len p (x ∷ [])) (suffix_len p xs)
suffix_more p x xs =
    let back : reverse (x ∷ xs) ≡ reverse xs ++ x ∷ [] = reverse_onto xs x [] in
    ap (prefix_len p) back ∙ prefix_len-append p (reverse xs) (x ∷ [])
    ∙ ap (λ (n : ℕ). cond (suffix_len p xs == n) (n + prefix_len p (x ∷ [])) (suffix_len p xs)) (length-reverse xs)

below_unequal : (a b : ℕ) → a < b → (a == b) ≡ false
below_unequal a b less = ⊎_elim (λ (same : (a == b) ≡ true). let e = eqb-true a b same in absurd (omega arith)) (λ (is : (a == b) ≡ false). is) (cases_Bool (a == b))

pub is_stripped : (b : ℕ) (xs : List ℕ) → without_trailing b xs ≡ strip b xs
is_stripped b [] = refl
is_stripped b (x ∷ xs) =
    let p : ℕ → Bool = λ byte. byte == b in
    let s = suffix_len p xs in
    let within : s ≤ length xs = suffix_len-le-length p xs in
    let front : take (length xs - s) xs ≡ strip b xs = is_stripped b xs in
    ⊎_elim
    (λ (some : s < length xs).
    let less : (s == length xs) ≡ false = below_unequal s (length xs) some in
    let one : suffix_len p (x ∷ xs) ≡ s = suffix_more p x xs ∙ ap (λ (t : Bool). cond t (length xs + prefix_len p (x ∷ [])) s) less in
    let n : suc (length xs) - s ≡ suc (length xs - s) = omega arith in
    let count : length (take (length xs - s) xs) ≡ length xs - s = length-take-le (length xs - s) xs (omega arith) in
    let kept : 0 < length (strip b xs) = let l = ap length front in omega arith in
    ap (λ (k : ℕ). take (suc (length xs) - k) (x ∷ xs)) one ∙ ap (λ (k : ℕ). take k (x ∷ xs)) n
    ∙ ap (λ (l : List ℕ). x ∷ l) front ∙ sym (kept_front b x (strip b xs) kept))
    (λ (none : length xs ≤ s).
    let all : s ≡ length xs = omega arith in
    let same : (s == length xs) ≡ true = eq-eqb s (length xs) all in
    let one : suffix_len p (x ∷ xs) ≡ length xs + prefix_len p (x ∷ []) = suffix_more p x xs ∙ ap (λ (t : Bool). cond t (length xs + prefix_len p (x ∷ [])) s) same in
    let zero_ : length xs - s ≡ 0 = omega arith in
    let gone : strip b xs ≡ [] = sym front ∙ ap (λ (k : ℕ). take k xs) zero_ in
    ap (λ (k : ℕ). take (suc (length xs) - k) (x ∷ xs)) one ∙ alone (x == b) refl ∙ ap (kept_before b x) (sym gone))
    (cases_lt s (length xs))
  where
    alone : (t : Bool) → (x == b) ≡ t → take (suc (length xs) - (length xs + prefix_len (λ byte. byte == b) (x ∷ []))) (x ∷ xs) ≡ cond (x == b) [] (x ∷ [])
    alone true e = let n : suc (length xs) - (length xs + (1 + 0)) ≡ 0 = omega arith in rw (e, n) refl
    alone false e = let n : suc (length xs) - (length xs + 0) ≡ 1 = omega arith in rw (e, n) refl

-- what is left out stands behind it
replaced_more : (b x : ℕ) (xs t : List ℕ) → xs ≡ t ++ replicate (length xs - length t) b
    → x ∷ xs ≡ kept_before b x t ++ replicate (suc (length xs) - length (kept_before b x t)) b
replaced_more b x xs [] is = alone (x == b) refl
  where
    all : xs ≡ replicate (length xs) b
    all = is ∙ ap (λ (k : ℕ). replicate k b) (let n : length xs - 0 ≡ length xs = omega arith in n)

    alone : (t : Bool) → (x == b) ≡ t
        → x ∷ xs ≡ cond (x == b) [] (x ∷ []) ++ replicate (suc (length xs) - length (cond (x == b) [] (x ∷ []))) b
    alone true e =
        let same : x ≡ b = eqb-true x b e in
        let n : suc (length xs) - 0 ≡ suc (length xs) = omega arith in
        rw (e, n) (ap (λ (y : ℕ). y ∷ xs) same ∙ ap (λ (l : List ℕ). b ∷ l) all)
    alone false e =
        let n : suc (length xs) - 1 ≡ length xs = omega arith in
        rw (e, n) (ap (λ (l : List ℕ). x ∷ l) all)
replaced_more b x xs (y ∷ ys) is =
    let n : suc (length xs) - suc (suc (length ys)) ≡ length xs - suc (length ys) = omega arith in
    rw n (ap (λ (l : List ℕ). x ∷ l) is)

pub replaced : (b : ℕ) (xs : List ℕ) → xs ≡ strip b xs ++ replicate (length xs - length (strip b xs)) b
replaced b [] = refl
replaced b (x ∷ xs) = replaced_more b x xs (strip b xs) (replaced b xs)

few_more : (b x n : ℕ) (t : List ℕ) → length t ≤ n → length (kept_before b x t) ≤ suc n
few_more b x n [] few = alone (x == b)
  where
    alone : (c : Bool) → length (cond c [] (x ∷ [])) ≤ suc n
    alone true = omega arith
    alone false = omega arith
few_more b x n (y ∷ ys) few = omega arith

pub strip_few : (b : ℕ) (xs : List ℕ) → length (strip b xs) ≤ length xs
strip_few b [] = omega arith
strip_few b (x ∷ xs) = few_more b x (length xs) (strip b xs) (strip_few b xs)

-- such bytes behind it change nothing
pub strip_all : (b k : ℕ) → strip b (replicate k b) ≡ []
strip_all b zero = refl
strip_all b (suc k) = ap (kept_before b b) (strip_all b k) ∙ ap (λ (t : Bool). cond t [] (b ∷ [])) (eq-eqb b b refl)

pub strip_behind : (b k : ℕ) (xs : List ℕ) → strip b (xs ++ replicate k b) ≡ strip b xs
strip_behind b k [] = strip_all b k
strip_behind b k (x ∷ xs) = ap (kept_before b x) (strip_behind b k xs)

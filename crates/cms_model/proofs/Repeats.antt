-- How often numbers stand in lists: the tests on repeats and marks, and what they say.
use Rattle.std.proofs.Common.{◌≡◌, inl, inr, ⊎_elim, ℕ, zero, suc, ◌+◌, ◌<◌, ◌≤◌, List, [], ◌∷◌, ◌++◌, if◌then◌else◌, Option, Some, None, Bool, true, false, not, refl, sym, ◌∙◌, ap, subst, arith}
use Rattle.std.specs.Prelude.{◌==◌, ◌&&◌, ◌||◌}
use Rattle.std.proofs.lemmas.Bool.{cases_Bool, cases_eq, eqb-true, eq-eqb}
use Rattle.cms_model.specs.Lists.{In, holds, times, first_repeat}
use Rattle.cms_model.specs.Maps.{is_marked, lowest_unmarked}

-- 1 where it holds
abbrev pub bit : Bool → ℕ
bit b = if b then 1 else 0

pub hit : (b : Bool) → b ≡ true → bit b ≡ 1
hit b e = rw e refl

pub miss : (b : Bool) → b ≡ false → bit b ≡ 0
miss b e = rw e refl

pub times_append : (n : ℕ) (xs ys : List ℕ) → times n (xs ++ ys) ≡ times n xs + times n ys
unfolding times
times_append n [] ys = omega arith
times_append n (x ∷ xs) ys = let more = times_append n xs ys in omega arith

-- the first of a list, and what stands behind it
pub times_first : (n : ℕ) (ns : List ℕ) → times n (n ∷ ns) ≡ suc (times n ns)
unfolding times
times_first n ns = let one : bit (n == n) ≡ 1 = hit (n == n) (eq-eqb n n refl) in omega arith

pub times_later : (n x : ℕ) (ns : List ℕ) → times n ns ≤ times n (x ∷ ns)
unfolding times
times_later n x ns = omega arith

-- what doesn't stand there isn't held
pub not_held : (n : ℕ) (xs : List ℕ) → times n xs ≡ 0 → holds xs n ≡ false
unfolding times holds
not_held n [] h = refl
not_held n (x ∷ xs) h = ⊎_elim
    (λ e. let one : bit (n == x) ≡ 1 = hit (n == x) e in absurd (omega arith))
    (λ e. let none : bit (n == x) ≡ 0 = miss (n == x) e in rw e (not_held n xs (omega arith)))
    (cases_Bool (n == x))

-- what is held stands there
pub held : (n : ℕ) (xs : List ℕ) → holds xs n ≡ true → 1 ≤ times n xs
unfolding times holds
held n [] h = absurd (cc)
held n (x ∷ xs) h = ⊎_elim
    (λ e. let one : bit (n == x) ≡ 1 = hit (n == x) e in omega arith)
    (λ e. let deeper : holds xs n ≡ true = rw e at h in let more = held n xs deeper in omega arith)
    (cases_Bool (n == x))

pub held_from : (n : ℕ) (xs : List ℕ) → 1 ≤ times n xs → holds xs n ≡ true
unfolding times holds
held_from n [] h = absurd (omega arith)
held_from n (x ∷ xs) h = ⊎_elim
    (λ e. rw e refl)
    (λ e. let none : bit (n == x) ≡ 0 = miss (n == x) e in rw e (held_from n xs (omega arith)))
    (cases_Bool (n == x))

pub in_from : (n : ℕ) (xs : List ℕ) → holds xs n ≡ true → In n xs
unfolding holds
in_from n [] h = absurd (cc)
in_from n (x ∷ xs) h = ⊎_elim (λ e. inl (eqb-true n x e)) (λ e. let deeper : holds xs n ≡ true = rw e at h in inr (in_from n xs deeper)) (cases_Bool (n == x))

pub in_held : (n : ℕ) (xs : List ℕ) → In n xs → holds xs n ≡ true
unfolding holds
in_held n [] h = absurd h
in_held n (x ∷ xs) (inl is) = rw (eq-eqb n x is) refl
in_held n (x ∷ xs) (inr more) = go (n == x) (in_held n xs more)
  where
    go : (b : Bool) → holds xs n ≡ true → (b || holds xs n) ≡ true
    go true h = refl
    go false h = h

-- none stands twice
pub no_repeat : (before ns : List ℕ) → ((n : ℕ) → times n before + times n ns ≤ 1) → first_repeat before ns ≡ None
unfolding times first_repeat
no_repeat before [] h = refl
no_repeat before (x ∷ ns) h =
    let here = h x in
    let one : bit (x == x) ≡ 1 = hit (x == x) (eq-eqb x x refl) in
    rw (not_held x before (omega arith)) (no_repeat (x ∷ before) ns (λ n. omega (arith, h n)))

pub if_none : (b : Bool) (x : ℕ) (r : Option ℕ) → (if b then Some x else r) ≡ None → (b ≡ false) × (r ≡ None)
if_none true x r e = absurd (cc)
if_none false x r e = (refl, e)

pub apart_from : (before ns : List ℕ) → first_repeat before ns ≡ None → (n : ℕ) → (holds before n ≡ true → times n ns ≡ 0) × (times n ns ≤ 1)
unfolding times holds first_repeat
apart_from before [] e n = (λ h. refl, omega arith)
apart_from before (x ∷ ns) e n =
    let c = if_none (holds before x) x (first_repeat (x ∷ before) ns) e in
    let deeper = apart_from (x ∷ before) ns c.1 n in
    let one = deeper.1 in
    ⊎_elim
    (λ (same : (n == x) ≡ true).
    let is : n ≡ x = eqb-true n x same in
    let first : holds (x ∷ before) n ≡ true = rw same refl in
    let none = deeper.0 first in
    let here : bit (n == x) ≡ 1 = hit (n == x) same in
    (λ h. absurd (clash (sym h ∙ ap (holds before) is ∙ c.0)), omega arith))
    (λ (other : (n == x) ≡ false).
    let here : bit (n == x) ≡ 0 = miss (n == x) other in
    (λ h. let more : holds (x ∷ before) n ≡ true = rw other h in let none = deeper.0 more in omega arith, omega arith))
    (cases_Bool (n == x))
  where
    clash : true ≡ false → ⊥
    clash e = cc

pub once_from : (ns : List ℕ) → first_repeat [] ns ≡ None → (n : ℕ) → times n ns ≤ 1
once_from ns e n = (apart_from [] ns e n).1

-- ---- marks

-- what stands there is marked
pub none_unmarked : (bytes met : List ℕ) (n more : ℕ) → ((k : ℕ) → n ≤ k → 1 ≤ times k met → is_marked bytes k ≡ true) → lowest_unmarked bytes met n more ≡ None
unfolding lowest_unmarked
none_unmarked bytes met n zero h = refl
none_unmarked bytes met n (suc more) h =
    let deeper = none_unmarked bytes met (n + 1) more (λ k le some. h k (omega arith) some) in
    ⊎_elim
    (λ e. let m = h n (omega arith) (held n met e) in rw m (rw e deeper))
    (λ e. rw e deeper)
    (cases_Bool (holds met n))

pub marked_from : (bytes met : List ℕ) (n more k : ℕ) → lowest_unmarked bytes met n more ≡ None → n ≤ k → k < n + more → holds met k ≡ true → is_marked bytes k ≡ true
unfolding lowest_unmarked
marked_from bytes met n zero k e low high h = absurd (omega arith)
marked_from bytes met n (suc more) k e low high h =
    let c = if_none (holds met n && not (is_marked bytes n)) n (lowest_unmarked bytes met (n + 1) more) e in
    ⊎_elim
    (λ (is : n ≡ k). both (subst (λ (x : ℕ). holds met x ≡ true) (sym is) h) c.0 is)
    (λ ne. marked_from bytes met (n + 1) more k c.1 (above ne) (omega arith) h)
    (cases_eq n k)
  where
    above : (n ≡ k → ⊥) → n + 1 ≤ k
    above ne = omega arith

    test : (a b : Bool) → a ≡ true → (a && not b) ≡ false → b ≡ true
    test true true h e = refl
    test true false h e = absurd (cc)
    test false b h e = absurd (cc)

    both : holds met n ≡ true → (holds met n && not (is_marked bytes n)) ≡ false → n ≡ k → is_marked bytes k ≡ true
    both h e is = subst (λ (x : ℕ). is_marked bytes x ≡ true) is (test (holds met n) (is_marked bytes n) h e)

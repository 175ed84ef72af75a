-- The free blocks of a map: the search for the next, what marking the lowest of them leaves, and what they are.
use Rattle.std.proofs.Common.{◌≡◌, inl, inr, ⊎_elim, ℕ, zero, suc, ◌+◌, ◌-◌, ◌*◌, ◌^◌, ◌≤◌, ◌<◌, Bool, true, false, List, [], ◌∷◌, ◌++◌, length, take, drop, get_or, set, refl, sym, ◌∙◌, ap, arith, length-set}
use Rattle.std.proofs.lemmas.List.{append_assoc, drop_more, take_more, drop-drop, drop-set-lt, length-drop, get_or_default}
use Rattle.std.specs.Prelude.{◌≢◌, ◌==◌, ◌&&◌, if◌then◌else◌}
use Rattle.std.proofs.lemmas.Bool.{cases_eq, and_parts, eqb-true}
use Rattle.std.specs.List.Sorted.{IsStrictlyIncreasing}
use Rattle.cms_model.specs.Lists.{In}
use native.Mathlib.Nat.{pow-suc, one-le-pow}
use Rattle.cms_map.specs.Bits.{free_from, free_blocks, with_marked, number_of, FreeAreUnused, FreeAscend}
use Rattle.cms_map.proofs.Packed.{number_of-small}

pub free_from-append : (n : ℕ) (xs ys : List Bool) → free_from n (xs ++ ys) ≡ free_from n xs ++ free_from (n + length xs) ys
unfolding free_from
free_from-append n [] ys = let e : n ≡ n + 0 = omega arith in ap (λ (k : ℕ). free_from k ys) e
free_from-append n (true ∷ xs) ys = let e : n + 1 + length xs ≡ n + suc (length xs) = omega arith in rw (← e) (free_from-append (n + 1) xs ys)
free_from-append n (false ∷ xs) ys = let e : n + 1 + length xs ≡ n + suc (length xs) = omega arith in rw (← e) (ap (λ (l : List ℕ). n ∷ l) (free_from-append (n + 1) xs ys))

-- no more are free than there are
pub free_from-le : (n : ℕ) (bits : List Bool) → length (free_from n bits) ≤ length bits
unfolding free_from
free_from-le n [] = omega arith
free_from-le n (true ∷ bits) = omega (arith, free_from-le (n + 1) bits)
free_from-le n (false ∷ bits) = omega (arith, free_from-le (n + 1) bits)

pub free_from-released : (n place : ℕ) (bits : List Bool) → place < length bits → get_or bits place false ≡ true → length (free_from n (set bits place false)) ≡ suc (length (free_from n bits))
unfolding free_from
free_from-released n place [] within is = absurd (omega arith)
free_from-released n zero (true ∷ bits) within is = refl
free_from-released n zero (false ∷ bits) within is = absurd (cc)
free_from-released n (suc place) (true ∷ bits) within is = free_from-released (n + 1) place bits (omega arith) is
free_from-released n (suc place) (false ∷ bits) within is = ap suc (free_from-released (n + 1) place bits (omega arith) is)

-- marking a free block leaves one fewer
pub free_from-marked : (n place : ℕ) (bits : List Bool) → get_or bits place true ≡ false → length (free_from n bits) ≡ suc (length (free_from n (set bits place true)))
unfolding free_from
free_from-marked n place [] is = absurd (cc)
free_from-marked n zero (true ∷ bits) is = absurd (cc)
free_from-marked n zero (false ∷ bits) is = refl
free_from-marked n (suc place) (true ∷ bits) is = free_from-marked (n + 1) place bits is
free_from-marked n (suc place) (false ∷ bits) is = ap suc (free_from-marked (n + 1) place bits is)

-- bits that are all 1 have no free block
pub free_from-full : (k n : ℕ) (bits : List Bool) → number_of k bits + 1 ≡ 2 ^ k → free_from n bits ≡ free_from (n + k) (drop k bits)
unfolding free_from number_of
free_from-full zero n bits is = let e : n ≡ n + 0 = omega arith in ap (λ (m : ℕ). free_from m bits) e
free_from-full (suc k) n [] is = refl
free_from-full (suc k) n (true ∷ bits) is =
    let double : 2 ^ suc k ≡ 2 ^ k * 2 = pow-suc 2 k in
    let e : n + 1 + k ≡ n + suc k = omega arith in
    rw (← e) (free_from-full k (n + 1) bits (omega arith))
free_from-full (suc k) n (false ∷ bits) is =
    let double : 2 ^ suc k ≡ 2 ^ k * 2 = pow-suc 2 k in
    let some : 1 ≤ 2 ^ k = one-le-pow k 2 (omega arith) in
    absurd (omega (arith, number_of-small k bits))

-- a block in use is passed, or eight of them
passes_one : (bits : List Bool) (next : ℕ) → 1 ≤ next → next ≤ length bits → get_or bits (next - 1) false ≡ true
    → free_from next (drop (next - 1) bits) ≡ free_from (next + 1) (drop (next + 1 - 1) bits)
unfolding free_from
passes_one bits next first last is =
    let here : drop (next - 1) bits ≡ get_or bits (next - 1) false ∷ drop (next - 1 + 1) bits = drop_more bits (next - 1) false (omega arith) in
    let on : next - 1 + 1 ≡ next + 1 - 1 = omega arith in
    ap (free_from next) (rw (is, on) at here)

passes_eight : (bits : List Bool) (next : ℕ) → 1 ≤ next → number_of 8 (drop (next - 1) bits) ≡ 255 → free_from next (drop (next - 1) bits) ≡ free_from (next + 8) (drop (next + 8 - 1) bits)
passes_eight bits next first is =
    let power : 2 ^ 8 ≡ 256 = refl in
    let on : next - 1 + 8 ≡ next + 8 - 1 = omega arith in
    free_from-full 8 next (drop (next - 1) bits) (omega arith) ∙ ap (free_from (next + 8)) (drop-drop 8 (next - 1) bits ∙ ap (λ (n : ℕ). drop n bits) on)

pub passes : (bits : List Bool) (next step : ℕ) (begins full : Bool) → 1 ≤ next → next ≤ length bits → get_or bits (next - 1) false ≡ true
    → full ≡ (begins && (number_of 8 (drop (next - 1) bits) == 255)) → step ≡ (if full then 8 else 1)
    → free_from next (drop (next - 1) bits) ≡ free_from (next + step) (drop (next + step - 1) bits)
passes bits next step begins true first last is is_full is_step =
    let all : number_of 8 (drop (next - 1) bits) ≡ 255 = eqb-true _ _ (and_parts begins (number_of 8 (drop (next - 1) bits) == 255) (sym is_full)).1 in
    rw is_step (passes_eight bits next first all)
passes bits next step begins false first last is is_full is_step = rw is_step (passes_one bits next first last is)

-- a block that isn't in use is the next
pub record IsNext (bits : List Bool) (next : ℕ) : Type 0 where
  pub next_is : free_from next (drop (next - 1) bits) ≡ next ∷ free_from (next + 1) (drop next bits)
  pub free : get_or bits (next - 1) true ≡ false

pub finds : (bits : List Bool) (next : ℕ) → 1 ≤ next → next ≤ length bits → get_or bits (next - 1) false ≡ false → IsNext bits next
unfolding free_from
finds bits next first last is =
    let here : drop (next - 1) bits ≡ get_or bits (next - 1) false ∷ drop (next - 1 + 1) bits = drop_more bits (next - 1) false (omega arith) in
    let on : next - 1 + 1 ≡ next = omega arith in
    record { next_is = ap (free_from next) (rw (is, on) at here); free = get_or_default bits (next - 1) true false (omega arith) ∙ is }

-- some block from this one on is free, so it is no further than the last
pub some_free : (n at : ℕ) (bits : List Bool) → 0 < length (free_from n (drop at bits)) → at < length bits
some_free n at bits some = omega (arith, free_from-le n (drop at bits), length-drop at bits)

-- ---- the marking of the lowest free blocks

pub with_marked-push : (ns : List ℕ) (n : ℕ) (bits : List Bool) → with_marked (ns ++ n ∷ []) bits ≡ set (with_marked ns bits) (n - 1) true
unfolding with_marked
with_marked-push [] n bits = refl
with_marked-push (m ∷ ns) n bits = with_marked-push ns n (set bits (m - 1) true)

pub length-with_marked : (ns : List ℕ) (bits : List Bool) → length (with_marked ns bits) ≡ length bits
unfolding with_marked
length-with_marked [] bits = refl
length-with_marked (n ∷ ns) bits = length-with_marked ns (set bits (n - 1) true) ∙ length-set bits (n - 1) true

-- how far the marking of the lowest free blocks of the map `old` has come: so many are marked, the last of them is `block`, and `had` was there before
pub record Marking (old : List Bool) (had : List ℕ) (bits : List Bool) (has : List ℕ) (block taken : ℕ) : Type 0 where
  pub marks : bits ≡ with_marked (take taken (free_blocks old)) old
  pub blocks : has ≡ had ++ take taken (free_blocks old)
  pub same : drop block bits ≡ drop block old
  pub left : free_from (block + 1) (drop block old) ≡ drop taken (free_blocks old)

-- one more is free while fewer are marked than are free
pub one_left : (old : List Bool) (had : List ℕ) (bits : List Bool) (has : List ℕ) (block taken : ℕ) → Marking old had bits has block taken → taken < length (free_blocks old)
    → 0 < length (free_from (block + 1) (drop block bits))
one_left old had bits has block taken m some =
    let rest = ap length (ap (free_from (block + 1)) m.same ∙ m.left) in omega (arith, length-drop taken (free_blocks old))

pub marks_next : (old : List Bool) (had : List ℕ) (bits : List Bool) (has : List ℕ) (block taken next : ℕ) → Marking old had bits has block taken → taken < length (free_blocks old)
    → free_from (block + 1) (drop block bits) ≡ next ∷ free_from (next + 1) (drop next bits) → block < next
    → Marking old had (set bits (next - 1) true) (has ++ next ∷ []) next (taken + 1)
marks_next old had bits has block taken next m some is later =
    let free = free_blocks old in
    let first : drop taken free ≡ get_or free taken 0 ∷ drop (taken + 1) free = drop_more free taken 0 some in
    let both : ◌≡◌ {A = List ℕ} (next ∷ free_from (next + 1) (drop next bits)) (get_or free taken 0 ∷ drop (taken + 1) free) = sym is ∙ ap (free_from (block + 1)) m.same ∙ m.left ∙ first in
    let head : get_or free taken 0 ≡ next = sym (cc both) in
    let tail : free_from (next + 1) (drop next bits) ≡ drop (taken + 1) free = cc both in
    let more : take (taken + 1) free ≡ take taken free ++ next ∷ [] = rw head at (take_more free taken 0 some) in
    let on : block + (next - block) ≡ next = omega arith in
    let behind : drop next bits ≡ drop next old =
    ap (λ (n : ℕ). drop n bits) (sym on) ∙ sym (drop-drop (next - block) block bits) ∙ ap (drop (next - block)) m.same ∙ drop-drop (next - block) block old ∙ ap (λ (n : ℕ). drop n old) on in
    let unset : drop next (set bits (next - 1) true) ≡ drop next bits = drop-set-lt next bits (next - 1) true (omega arith) in
    record {
      marks = ap (λ (l : List Bool). set l (next - 1) true) m.marks ∙ sym (with_marked-push (take taken free) next old) ∙ ap (λ (l : List ℕ). with_marked l old) (sym more);
      blocks = ap (λ (l : List ℕ). l ++ next ∷ []) m.blocks ∙ append_assoc had (take taken free) (next ∷ []) ∙ ap (λ (l : List ℕ). had ++ l) (sym more);
      same = unset ∙ behind;
      left = ap (free_from (next + 1)) (sym behind) ∙ tail;
    }

-- ---- what the free blocks are

in_free : (k n : ℕ) (bits : List Bool) → In n (free_from k bits) → (k ≤ n) × (n < k + length bits) × (get_or bits (n - k) true ≡ false)
unfolding free_from
in_free k n [] h = absurd h
in_free k n (true ∷ bits) h =
    let deeper = in_free (k + 1) n bits h in
    let low = deeper.0 in let high = deeper.1 in
    let back : n - k ≡ suc (n - (k + 1)) = omega arith in
    (omega arith, omega arith, rw back deeper.2)
in_free k n (false ∷ bits) (inl is) = let none : n - k ≡ 0 = omega arith in (omega arith, omega arith, rw none refl)
in_free k n (false ∷ bits) (inr h) =
    let deeper = in_free (k + 1) n bits h in
    let low = deeper.0 in let high = deeper.1 in
    let back : n - k ≡ suc (n - (k + 1)) = omega arith in
    (omega arith, omega arith, rw back deeper.2)

is_free : (k n : ℕ) (bits : List Bool) → k ≤ n → n < k + length bits → get_or bits (n - k) true ≡ false → In n (free_from k bits)
unfolding free_from
is_free k n [] low high is = absurd (omega arith)
is_free k n (bit ∷ bits) low high is = ⊎_elim
    (λ (here : n ≡ k). let none : n - k ≡ 0 = omega arith in first bit (rw none at is) here)
    (λ (other : n ≢ k). let back : n - k ≡ suc (n - (k + 1)) = omega arith in later bit (is_free (k + 1) n bits (omega arith) (omega arith) (rw back at is)))
    (cases_eq n k)
  where
    first : (b : Bool) → get_or (b ∷ bits) 0 true ≡ false → n ≡ k → In n (free_from k (b ∷ bits))
    first true e here = absurd (cc)
    first false e here = inl here

    later : (b : Bool) → In n (free_from (k + 1) bits) → In n (free_from k (b ∷ bits))
    later true h = h
    later false h = inr h

pub free_are_unused : FreeAreUnused
free_are_unused bits n = (λ h. let all = in_free 1 n bits h in (all.0, omega (arith, all.1), all.2), λ all. is_free 1 n bits all.0 (omega (arith, all.1)) all.2)

pub free_above : (k : ℕ) (bits : List Bool) (i : ℕ) → i < length (free_from k bits) → k ≤ get_or (free_from k bits) i 0
unfolding free_from
free_above k [] i less = absurd (omega arith)
free_above k (true ∷ bits) i less = let deeper = free_above (k + 1) bits i less in omega arith
free_above k (false ∷ bits) zero less = omega arith
free_above k (false ∷ bits) (suc i) less = let deeper = free_above (k + 1) bits i (omega arith) in omega arith

free_ascend_from : (k : ℕ) (bits : List Bool) → IsStrictlyIncreasing (free_from k bits)
unfolding free_from
free_ascend_from k [] i less = absurd (omega arith)
free_ascend_from k (true ∷ bits) i less = free_ascend_from (k + 1) bits i less
free_ascend_from k (false ∷ bits) zero less = let above = free_above (k + 1) bits 0 (omega arith) in let one : 0 + 1 ≡ suc 0 = omega arith in rw one (omega arith)
free_ascend_from k (false ∷ bits) (suc i) less = let next : suc i + 1 ≡ suc (i + 1) = omega arith in rw next (free_ascend_from (k + 1) bits i (omega arith))

pub free_ascend : FreeAscend
free_ascend bits = free_ascend_from 1 bits

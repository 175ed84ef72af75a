-- The bits of a map with blocks marked and freed, and the marks in its bytes.
use Rattle.std.proofs.Common.{◌≡◌, ⊎_elim, ℕ, zero, suc, ◌+◌, ◌-◌, ◌<◌, ◌≤◌, Bool, true, false, not, if◌then◌else◌, List, [], ◌∷◌, length, take, set, get_or, refl, ap, sym, ◌∙◌, subst, arith}
use Rattle.std.specs.Prelude.{nat_le, ◌==◌, ◌&&◌, ◌||◌}
use Rattle.std.proofs.lemmas.Bool.{cases_Bool, false_from_ne_true, cases_lt, or_parts, le-leb, lt-leb, leb-true, eqb-true, eq-eqb}
use Rattle.std.proofs.lemmas.List.{length-set, get_or-set_same, get_or-set_other}
use Rattle.std.proofs.lemmas.List.FromFn.{get_or-map-range_with_len}
use Rattle.cms_model.specs.Lists.{holds, times}
use Rattle.cms_model.specs.Maps.{is_marked, is_used}
use Rattle.cms_model.proofs.Repeats.{bit, hit, miss, held_from, not_held, in_from, times_first, times_later}
use Rattle.cms_map.specs.Bits.{bits_in, free_from, free_blocks, with_marked, HasFixed}
use Rattle.cms_map.proofs.Free.{free_are_unused, length-with_marked}
use Rattle.cms_map.proofs.Held.{bits_count}
use Rattle.cms_held.specs.Renewals.{with_freed}

-- ---- one bit

clash : true ≡ false → ⊥
clash e = cc

-- a bit behind one that is set
pub set_bit : (bits : List Bool) (k n : ℕ) (b : Bool) → 1 ≤ k → 1 ≤ n → k ≤ length bits → get_or (set bits (k - 1) b) (n - 1) false ≡ (if n == k then b else get_or bits (n - 1) false)
set_bit bits k n b low some within = ⊎_elim
    (λ (same : (n == k) ≡ true).
    let is : n ≡ k = eqb-true n k same in
    rw same (ap (λ (i : ℕ). get_or (set bits (k - 1) b) (i - 1) false) is ∙ get_or-set_same bits (k - 1) b false (omega arith)))
    (λ (other : (n == k) ≡ false).
    rw other (get_or-set_other bits (k - 1) (n - 1) b false (λ e. clash (sym (eq-eqb n k (omega (arith, e))) ∙ other))))
    (cases_Bool (n == k))

-- the bit of a block
pub bit_read : (total : ℕ) (bytes : List ℕ) (n : ℕ) (d : Bool) → 1 ≤ n → n ≤ total → get_or (bits_in total bytes) (n - 1) d ≡ is_used bytes n
unfolding bits_in
bit_read total bytes n d low high = get_or-map-range_with_len (is_used bytes) 1 total (n - 1) n d (omega arith) (omega arith)

pub not_used : (bytes : List ℕ) (n : ℕ) → is_used bytes n ≡ false → (6 ≤ n) × (is_marked bytes n ≡ false)
unfolding is_used
not_used bytes n is =
    let parts = or_parts (nat_le n 5) (is_marked bytes n) is in
    (⊎_elim (λ (low : n < 6). absurd (clash (sym (le-leb n 5 (omega arith)) ∙ parts.0))) (λ (high : 6 ≤ n). high) (cases_lt n 6), parts.1)

pub used_marked : (bytes : List ℕ) (n : ℕ) → 6 ≤ n → is_used bytes n ≡ is_marked bytes n
unfolding is_used
used_marked bytes n low = let no' : nat_le n 5 ≡ false = lt-leb n 5 (omega arith) in rw no' refl

fixed_used : (bytes : List ℕ) (n : ℕ) → n ≤ 5 → is_used bytes n ≡ true
unfolding is_used
fixed_used bytes n low = let yes' : nat_le n 5 ≡ true = le-leb n 5 low in rw yes' refl

-- ---- blocks that are marked, and blocks that are freed

-- each is one of so many
abbrev pub AreIn : ℕ → List ℕ → Type 0
AreIn count ns = (n : ℕ) → 1 ≤ times n ns → (1 ≤ n) × (n ≤ count)

rest_in : (count x : ℕ) (ns : List ℕ) → AreIn count (x ∷ ns) → AreIn count ns
rest_in count x ns within n some = within n (omega (arith, times_later n x ns))

-- the bits with one block freed, if it is one that can be
abbrev one_freed : ℕ → List Bool → List Bool
one_freed n bits = if nat_le 6 n then set bits (n - 1) false else bits

length_one : (n : ℕ) (bits : List Bool) → length (one_freed n bits) ≡ length bits
length_one n bits = go (nat_le 6 n)
  where
    go : (b : Bool) → length (if b then set bits (n - 1) false else bits) ≡ length bits
    go true = length-set bits (n - 1) false
    go false = refl

pub length_freed : (ns : List ℕ) (bits : List Bool) → length (with_freed ns bits) ≡ length bits
unfolding with_freed
length_freed [] bits = refl
length_freed (n ∷ ns) bits = length_freed ns (one_freed n bits) ∙ length_one n bits

pub bit_marked : (ns : List ℕ) (bits : List Bool) (n : ℕ) → AreIn (length bits) ns → 1 ≤ n → get_or (with_marked ns bits) (n - 1) false ≡ (holds ns n || get_or bits (n - 1) false)
unfolding with_marked holds
bit_marked [] bits n within some = refl
bit_marked (m ∷ ns) bits n within some =
    let here = within m (omega (arith, times_first m ns)) in
    let rest : AreIn (length (set bits (m - 1) true)) ns = λ k more. (let w = rest_in (length bits) m ns within k more in (w.0, omega (arith, w.1, length-set bits (m - 1) true))) in
    bit_marked ns (set bits (m - 1) true) n rest some
    ∙ (ap (λ (b : Bool). holds ns n || b) (set_bit bits m n true here.0 some here.1) ∙ moved (n == m) (holds ns n) (get_or bits (n - 1) false))
  where
    moved : (e h b : Bool) → (h || (if e then true else b)) ≡ ((e || h) || b)
    moved true true b = refl
    moved true false b = refl
    moved false true b = refl
    moved false false b = refl

-- a bit behind one block that is freed, from block 6 on and before
freed_late : (bits : List Bool) (k n : ℕ) → 1 ≤ k → k ≤ length bits → 6 ≤ n → get_or (one_freed k bits) (n - 1) false ≡ (if n == k then false else get_or bits (n - 1) false)
freed_late bits k n low within late = ⊎_elim
    (λ (can : nat_le 6 k ≡ true). rw can (set_bit bits k n false low (omega arith) within))
    (λ (not' : nat_le 6 k ≡ false).
    let other : (n == k) ≡ false = false_from_ne_true (n == k) (λ same. let is = eqb-true n k same in clash (sym (le-leb 6 k (omega arith)) ∙ not')) in
    rw (not', other) refl)
    (cases_Bool (nat_le 6 k))

freed_early : (bits : List Bool) (k n : ℕ) → 1 ≤ n → n ≤ 5 → get_or (one_freed k bits) (n - 1) false ≡ get_or bits (n - 1) false
freed_early bits k n some low = ⊎_elim
    (λ (can : nat_le 6 k ≡ true).
    let late = leb-true 6 k can in
    rw can (get_or-set_other bits (k - 1) (n - 1) false false (λ e. omega (arith, e))))
    (λ (not' : nat_le 6 k ≡ false). rw not' refl)
    (cases_Bool (nat_le 6 k))

pub bit_freed : (ns : List ℕ) (bits : List Bool) (n : ℕ) → AreIn (length bits) ns → 6 ≤ n → get_or (with_freed ns bits) (n - 1) false ≡ (not (holds ns n) && get_or bits (n - 1) false)
unfolding with_freed holds
bit_freed [] bits n within late = refl
bit_freed (m ∷ ns) bits n within late =
    let here = within m (omega (arith, times_first m ns)) in
    let rest : AreIn (length (one_freed m bits)) ns = λ k more. (let w = rest_in (length bits) m ns within k more in (w.0, omega (arith, w.1, length_one m bits))) in
    bit_freed ns (one_freed m bits) n rest late
    ∙ (ap (λ (b : Bool). not (holds ns n) && b) (freed_late bits m n here.0 here.1 late) ∙ moved (n == m) (holds ns n) (get_or bits (n - 1) false))
  where
    moved : (e h b : Bool) → (not h && (if e then false else b)) ≡ (not (e || h) && b)
    moved true true b = refl
    moved true false b = refl
    moved false true b = refl
    moved false false b = refl

bit_kept : (ns : List ℕ) (bits : List Bool) (n : ℕ) → 1 ≤ n → n ≤ 5 → get_or (with_freed ns bits) (n - 1) false ≡ get_or bits (n - 1) false
unfolding with_freed
bit_kept [] bits n some low = refl
bit_kept (m ∷ ns) bits n some low = bit_kept ns (one_freed m bits) n some low ∙ freed_early bits m n some low

-- ---- free blocks

free_early : (k : ℕ) (bits : List Bool) (n : ℕ) → n < k → times n (free_from k bits) ≡ 0
unfolding free_from times
free_early k [] n less = refl
free_early k (true ∷ bits) n less = free_early (k + 1) bits n (omega arith)
free_early k (false ∷ bits) n less =
    let other : bit (n == k) ≡ 0 = miss (n == k) (false_from_ne_true (n == k) (λ same. omega (arith, eqb-true n k same))) in
    omega (arith, free_early (k + 1) bits n (omega arith))

pub free_once : (k : ℕ) (bits : List Bool) (n : ℕ) → times n (free_from k bits) ≤ 1
unfolding free_from times
free_once k [] n = omega arith
free_once k (true ∷ bits) n = free_once (k + 1) bits n
free_once k (false ∷ bits) n = ⊎_elim
    (λ (same : (n == k) ≡ true). let one : bit (n == k) ≡ 1 = hit (n == k) same in let none = free_early (k + 1) bits n (omega (arith, eqb-true n k same)) in omega arith)
    (λ (other : (n == k) ≡ false). let none : bit (n == k) ≡ 0 = miss (n == k) other in omega (arith, free_once (k + 1) bits n))
    (cases_Bool (n == k))

pub take_fewer : (k : ℕ) (xs : List ℕ) (n : ℕ) → times n (take k xs) ≤ times n xs
unfolding times
take_fewer zero xs n = omega arith
take_fewer (suc k) [] n = omega arith
take_fewer (suc k) (x ∷ xs) n = omega (arith, take_fewer k xs n)

-- blocks that a map doesn't mark, none of them twice
pub record AreUnmarked (total : ℕ) (bytes ns : List ℕ) : Type 0 where
  pub each : (n : ℕ) → 1 ≤ times n ns → (6 ≤ n) × (n ≤ total) × (is_marked bytes n ≡ false)
  pub once : (n : ℕ) → times n ns ≤ 1

pub lowest_free : (total : ℕ) (bytes ns : List ℕ) → ns ≡ take (length ns) (free_blocks (bits_in total bytes)) → AreUnmarked total bytes ns
lowest_free total bytes ns is = record {
  each = λ n some.
      let more = fewer n in
      let free = (free_are_unused (bits_in total bytes) n).0 (in_from n (free_blocks (bits_in total bytes)) (held_from n (free_blocks (bits_in total bytes)) (omega arith))) in
      let low = free.0 in
      let high : n ≤ total = omega (arith, free.1, bits_count total bytes) in
      let none = not_used bytes n (sym (bit_read total bytes n true low high) ∙ free.2) in
      (none.0, high, none.1);
  once = λ n. omega (arith, fewer n, free_once 1 (bits_in total bytes) n);
}
  where
    fewer : (n : ℕ) → times n ns ≤ times n (free_blocks (bits_in total bytes))
    fewer n = let less = take_fewer (length ns) (free_blocks (bits_in total bytes)) n in
        subst (λ (l : List ℕ). times n l ≤ times n (free_blocks (bits_in total bytes))) (sym is) less

-- ---- the new map

-- its marks, where no block is both freed and marked
pub new_marks : (total : ℕ) (old new freed marked : List ℕ) → bits_in total new ≡ with_freed freed (with_marked marked (bits_in total old)) → AreIn total freed → AreIn total marked
    → (n : ℕ) → 6 ≤ n → n ≤ total → (1 ≤ times n marked → times n freed ≡ 0) → is_marked new n ≡ ((is_marked old n && not (holds freed n)) || holds marked n)
new_marks total old new freed marked is freed_in marked_in n low high apart =
    let bits = bits_in total old in
    let long = bits_count total old in
    let some : 1 ≤ n = omega arith in
    let marked_in' : AreIn (length bits) marked = λ k more. (let w = marked_in k more in (w.0, omega (arith, w.1))) in
    let freed_in' : AreIn (length (with_marked marked bits)) freed = λ k more. (let w = freed_in k more in (w.0, omega (arith, w.1, length-with_marked marked bits))) in
    sym (used_marked new n low) ∙ (sym (bit_read total new n false some high)
    ∙ (ap (λ (l : List Bool). get_or l (n - 1) false) is
    ∙ (bit_freed freed (with_marked marked bits) n freed_in' low
    ∙ (ap (λ (b : Bool). not (holds freed n) && b) (bit_marked marked bits n marked_in' some)
    ∙ (ap (λ (b : Bool). not (holds freed n) && (holds marked n || b)) (bit_read total old n false some high ∙ used_marked old n low)
    ∙ turned (is_marked old n) (holds freed n) (holds marked n) (λ h. not_held n freed (apart (some_times h))))))))
  where
    some_times : holds marked n ≡ true → 1 ≤ times n marked
    some_times h = ⊎_elim (λ (none : times n marked < 1). absurd (clash (sym h ∙ not_held n marked (omega arith)))) (λ (more : 1 ≤ times n marked). more) (cases_lt (times n marked) 1)

    turned : (m r f : Bool) → (f ≡ true → r ≡ false) → (not r && (f || m)) ≡ ((m && not r) || f)
    turned m true true h = absurd (clash (h refl))
    turned true true false h = refl
    turned false true false h = refl
    turned true false true h = refl
    turned false false true h = refl
    turned true false false h = refl
    turned false false false h = refl

-- blocks 1 to 5 stay in use
pub new_fixed : (total : ℕ) (old freed marked : List ℕ) → AreIn total marked → HasFixed (with_freed freed (with_marked marked (bits_in total old)))
new_fixed total old freed marked marked_in n low high within =
    let bits = bits_in total old in
    let long = bits_count total old in
    let long' = length-with_marked marked bits in
    let top : n ≤ total = omega (arith, length_freed freed (with_marked marked bits)) in
    let marked_in' : AreIn (length bits) marked = λ k more. (let w = marked_in k more in (w.0, omega (arith, w.1))) in
    bit_kept freed (with_marked marked bits) n low high
    ∙ (bit_marked marked bits n marked_in' low
    ∙ (ap (λ (b : Bool). holds marked n || b) (bit_read total old n false low top ∙ fixed_used old n high) ∙ either (holds marked n)))
  where
    either : (b : Bool) → (b || true) ≡ true
    either true = refl
    either false = refl

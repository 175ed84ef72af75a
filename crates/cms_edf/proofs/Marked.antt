-- Blocks that were met or lost, by the map's bits.
use Rattle.std.proofs.Common.{◌≡◌, ⊎_elim, ℕ, zero, suc, ◌+◌, ◌-◌, ◌<◌, ◌≤◌, Bool, true, false, not, if◌then◌else◌, List, length, map, slice_index_or, Option, Some, None, refl, sym, ◌∙◌, ap, arith}
use Rattle.std.specs.Prelude.{◌&&◌, ◌||◌, nat_le}
use Rattle.std.specs.List.{range_with_len}
use Rattle.std.proofs.lemmas.Bool.{cases_Bool, leb-true}
use Rattle.cms_model.specs.Lists.{holds}
use Rattle.cms_model.specs.Maps.{is_marked, is_used, lowest_unmarked, lost_count}
use Rattle.cms_map.specs.Bits.{bits_in}
use Rattle.cms_edf.specs.OpeningSteps.{Tells}

-- a bit of the map
bit_from : (bytes : List ℕ) (m n i : ℕ) → i < n → slice_index_or (map (is_used bytes) (range_with_len m n)) i false ≡ is_used bytes (m + i)
bit_from bytes m zero i less = absurd (omega arith)
bit_from bytes m (suc n) zero less = let e : m + 0 ≡ m = omega arith in rw e refl
bit_from bytes m (suc n) (suc i) less = let e : m + suc i ≡ m + 1 + i = omega arith in rw e (bit_from bytes (m + 1) n i (omega arith))

pub bit_marked : (bits : List Bool) (bytes : List ℕ) (n : ℕ) → 6 ≤ n → n ≤ length bits → bits ≡ bits_in (length bits) bytes → slice_index_or bits (n - 1) false ≡ is_marked bytes n
unfolding bits_in is_used
bit_marked bits bytes n low high is =
    let at : 1 + (n - 1) ≡ n = omega arith in
    ap (λ (bs : List Bool). slice_index_or bs (n - 1) false) is ∙ (bit_from bytes 1 (length bits) (n - 1) (omega arith) ∙ (ap (is_used bytes) at ∙ above (nat_le n 5) (is_marked bytes n) (none n low)))
  where
    none : (k : ℕ) → 6 ≤ k → nat_le k 5 ≡ false
    none k from = ⊎_elim (λ (e : nat_le k 5 ≡ true). let le = leb-true k 5 e in absurd (omega arith)) (λ (e : nat_le k 5 ≡ false). e) (cases_Bool (nat_le k 5))

    above : (a b : Bool) → a ≡ false → (a || b) ≡ b
    above a b e = rw e refl

-- ---- the lowest that isn't marked

-- so far none was found
abbrev pub Looks : List Bool → List Bool → ℕ → Type 0
Looks bits seen n = (bytes met : List ℕ) → bits ≡ bits_in (length bits) bytes → Tells seen met
    → lowest_unmarked bytes met 6 (length bits - 5) ≡ lowest_unmarked bytes met n (length bits + 1 - n)

-- a block, as the bits tell it
step_is : (bytes met : List ℕ) (n more : ℕ) (a b : Bool) → holds met n ≡ a → is_marked bytes n ≡ b
    → lowest_unmarked bytes met n (suc more) ≡ (if a && not b then Some n else lowest_unmarked bytes met (n + 1) more)
unfolding lowest_unmarked
step_is bytes met n more a b h m = rw (h, m) refl

pub looks_first : (bits seen : List Bool) → Looks bits seen 6
looks_first bits seen bytes met is told = let e : length bits + 1 - 6 ≡ length bits - 5 = omega arith in rw e refl

pub looks_found : (bits seen : List Bool) (n : ℕ) → 6 ≤ n → n ≤ length bits → (slice_index_or seen (n - 1) false && not (slice_index_or bits (n - 1) false)) ≡ true → Looks bits seen n
    → (bytes met : List ℕ) → bits ≡ bits_in (length bits) bytes → Tells seen met → Some n ≡ lowest_unmarked bytes met 6 (length bits - 5)
looks_found bits seen n low high found looks bytes met is told =
    let more : length bits + 1 - n ≡ suc (length bits - n) = omega arith in
    let h : holds met n ≡ slice_index_or seen (n - 1) false = sym (told n (omega arith)) in
    let m : is_marked bytes n ≡ slice_index_or bits (n - 1) false = sym (bit_marked bits bytes n low high is) in
    let step = step_is bytes met n (length bits - n) (slice_index_or seen (n - 1) false) (slice_index_or bits (n - 1) false) h m in
    sym (looks bytes met is told ∙ (ap (lowest_unmarked bytes met n) more
    ∙ (step ∙ taken (slice_index_or seen (n - 1) false && not (slice_index_or bits (n - 1) false)) n (lowest_unmarked bytes met (n + 1) (length bits - n)) found)))
  where
    taken : (c : Bool) (x : ℕ) (r : Option ℕ) → c ≡ true → (if c then Some x else r) ≡ Some x
    taken c x r e = rw e refl

pub looks_next : (bits seen : List Bool) (n : ℕ) → 6 ≤ n → n ≤ length bits → (slice_index_or seen (n - 1) false && not (slice_index_or bits (n - 1) false)) ≡ false → Looks bits seen n
    → Looks bits seen (n + 1)
looks_next bits seen n low high other looks bytes met is told =
    let a = slice_index_or seen (n - 1) false in
    let b = slice_index_or bits (n - 1) false in
    let more : length bits + 1 - n ≡ suc (length bits - n) = omega arith in
    let left : length bits + 1 - (n + 1) ≡ length bits - n = omega arith in
    let h : holds met n ≡ a = sym (told n (omega arith)) in
    let m : is_marked bytes n ≡ b = sym (bit_marked bits bytes n low high is) in
    let step = step_is bytes met n (length bits - n) a b h m in
    looks bytes met is told ∙ (ap (lowest_unmarked bytes met n) more
    ∙ (step ∙ (passed (a && not b) n (lowest_unmarked bytes met (n + 1) (length bits - n)) other ∙ ap (lowest_unmarked bytes met (n + 1)) (sym left))))
  where
    passed : (c : Bool) (x : ℕ) (r : Option ℕ) → c ≡ false → (if c then Some x else r) ≡ r
    passed c x r e = rw e refl

pub looks_last : (bits seen : List Bool) (n : ℕ) → length bits < n → Looks bits seen n
    → (bytes met : List ℕ) → bits ≡ bits_in (length bits) bytes → Tells seen met → None ≡ lowest_unmarked bytes met 6 (length bits - 5)
unfolding lowest_unmarked
looks_last bits seen n past looks bytes met is told =
    let none : length bits + 1 - n ≡ 0 = omega arith in
    sym (looks bytes met is told ∙ ap (lowest_unmarked bytes met n) none)

-- ---- how many are lost

-- so many so far
abbrev pub Counts : List Bool → List Bool → ℕ → ℕ → Type 0
Counts bits seen n lost = (bytes met : List ℕ) → bits ≡ bits_in (length bits) bytes → Tells seen met
    → lost_count bytes met 6 (length bits - 5) ≡ lost + lost_count bytes met n (length bits + 1 - n)

count_is : (bytes met : List ℕ) (n more : ℕ) (a b : Bool) → is_marked bytes n ≡ a → holds met n ≡ b
    → lost_count bytes met n (suc more) ≡ (if a && not b then 1 else 0) + lost_count bytes met (n + 1) more
unfolding lost_count
count_is bytes met n more a b m h = rw (m, h) refl

pub counts_first : (bits seen : List Bool) → Counts bits seen 6 0
counts_first bits seen bytes met is told = let e : length bits + 1 - 6 ≡ length bits - 5 = omega arith in rw e (omega arith)

pub counts_next : (bits seen : List Bool) (n lost more' : ℕ) → 6 ≤ n → n ≤ length bits → more' ≡ (if slice_index_or bits (n - 1) false && not (slice_index_or seen (n - 1) false) then 1 else 0)
    → Counts bits seen n lost
    → Counts bits seen (n + 1) (lost + more')
counts_next bits seen n lost more' low high more_is counts bytes met is told =
    let a = slice_index_or bits (n - 1) false in
    let b = slice_index_or seen (n - 1) false in
    let more : length bits + 1 - n ≡ suc (length bits - n) = omega arith in
    let left : length bits + 1 - (n + 1) ≡ length bits - n = omega arith in
    let h : holds met n ≡ b = sym (told n (omega arith)) in
    let m : is_marked bytes n ≡ a = sym (bit_marked bits bytes n low high is) in
    let step = count_is bytes met n (length bits - n) a b m h in
    let here = counts bytes met is told in
    let moved = ap (λ (k : ℕ). lost_count bytes met n k) more in
    let back = ap (λ (k : ℕ). lost_count bytes met (n + 1) k) left in
    omega (arith, here, moved, step, back, more_is)

pub counts_last : (bits seen : List Bool) (n lost : ℕ) → length bits < n → Counts bits seen n lost
    → (bytes met : List ℕ) → bits ≡ bits_in (length bits) bytes → Tells seen met → lost ≡ lost_count bytes met 6 (length bits - 5)
unfolding lost_count
counts_last bits seen n lost past counts bytes met is told =
    let none : length bits + 1 - n ≡ 0 = omega arith in
    let zero' : lost_count bytes met n (length bits + 1 - n) ≡ 0 = ap (λ (k : ℕ). lost_count bytes met n k) none in
    omega (arith, counts bytes met is told, zero')

pub bit_most : (b : Bool) (n : ℕ) → n ≡ (if b then 1 else 0) → n ≤ 1
bit_most true n e = omega arith
bit_most false n e = omega arith

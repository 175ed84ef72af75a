-- The map of an empty volume: its first blocks are in use.
use Rattle.std.proofs.Common.{◌≡◌, ⊎_elim, ℕ, zero, suc, ◌+◌, ◌-◌, ◌*◌, ◌/◌, ◌%◌, ◌^◌, ◌<◌, ◌≤◌, Bool, true, false, List, ◌∷◌, ◌++◌, length, take, map, get_or, set, replicate, if◌then◌else◌, All, refl, sym, ◌∙◌, ap, subst, arith, length-append}
use Rattle.std.specs.Prelude.{nat_le, not, ◌==◌, ◌&&◌}
use Rattle.std.specs.List.{range_with_len}
use Rattle.std.proofs.lemmas.Bool.{false_from_ne_true, cases_Bool, cases_lt, eqb-true, eq-eqb, lt-leb}
use Rattle.std.proofs.lemmas.List.{length-replicate, get_or-replicate, get_or_append_left, get_or-append_right}
use Rattle.std.proofs.lemmas.List.FromFn.{length-range_with_len}
use Rattle.std.proofs.lemmas.List.Elements.{All-nil, All-cons}
use Rattle.std.proofs.Math.Nat.{mul-le-mul_left, pow-zero, zero-div}
use Rattle.std.proofs.Math.Seq.{set-append_seam}
use Rattle.cms_fields.specs.Numbers.{up}
use Rattle.cms_model.specs.Lists.{holds, times}
use Rattle.cms_model.specs.Maps.{is_marked, is_used, lost_count}
use Rattle.cms_model.specs.Sizes.{levels_from, levels, pointers_to, pointer_count, tree_size, map_size}
use Rattle.cms_model.proofs.Quotients.{up_spec, up_some}
use Rattle.cms_model.proofs.Repeats.{bit, hit, miss}
use Rattle.cms_map.specs.Bits.{bits_in, free_from, free_blocks, with_marked, HasFixed}
use Rattle.cms_held.specs.EmptyVolumes.{first_bits}
use Rattle.cms_held.proofs.Allotted.{nodes_few}

clash : true ≡ false → ⊥
clash e = cc

-- ---- numbers in a row

-- a number below the first isn't one of them
row_early : (a k n : ℕ) → n < a → times n (range_with_len a k) ≡ 0
unfolding times
row_early a zero n less = refl
row_early a (suc k) n less =
    let other : bit (n == a) ≡ 0 = miss (n == a) (false_from_ne_true (n == a) (λ same. omega (arith, eqb-true n a same))) in
    omega (arith, row_early (a + 1) k n (omega arith))

pub row_once : (a k n : ℕ) → times n (range_with_len a k) ≤ 1
unfolding times
row_once a zero n = omega arith
row_once a (suc k) n = ⊎_elim
    (λ (same : (n == a) ≡ true). let one : bit (n == a) ≡ 1 = hit (n == a) same in let none = row_early (a + 1) k n (omega (arith, eqb-true n a same)) in omega arith)
    (λ (other : (n == a) ≡ false). let none : bit (n == a) ≡ 0 = miss (n == a) other in omega (arith, row_once (a + 1) k n))
    (cases_Bool (n == a))

pub row_within : (a k n : ℕ) → 1 ≤ times n (range_with_len a k) → (a ≤ n) × (n < a + k)
unfolding times
row_within a zero n some = absurd (omega arith)
row_within a (suc k) n some = ⊎_elim
    (λ (same : (n == a) ≡ true). let is = eqb-true n a same in (omega arith, omega arith))
    (λ (other : (n == a) ≡ false).
    let none : bit (n == a) ≡ 0 = miss (n == a) other in
    let w = row_within (a + 1) k n (omega arith) in
    let low = w.0 in
    let high = w.1 in
    (omega arith, omega arith))
    (cases_Bool (n == a))

pub row_has : (a k n : ℕ) → a ≤ n → n < a + k → 1 ≤ times n (range_with_len a k)
unfolding times
row_has a zero n low high = absurd (omega arith)
row_has a (suc k) n low high = ⊎_elim
    (λ (same : (n == a) ≡ true). let one : bit (n == a) ≡ 1 = hit (n == a) same in omega arith)
    (λ (other : (n == a) ≡ false). omega (arith, row_has (a + 1) k n (more other) (omega arith)))
    (cases_Bool (n == a))
  where
    more : (n == a) ≡ false → a + 1 ≤ n
    more other = ⊎_elim (λ (less : a < n). omega arith) (λ (most : n ≤ a). absurd (clash (sym (eq-eqb n a (omega arith)) ∙ other))) (cases_lt a n)

pub row_all : (P : ℕ → Type 0) (a k : ℕ) → ((n : ℕ) → a ≤ n → n < a + k → P n) → All P (range_with_len a k)
row_all P a zero each = All-nil P
row_all P a (suc k) each = All-cons P a (range_with_len (a + 1) k) (each a (omega arith) (omega arith)) (row_all P (a + 1) k (λ n low high. each n (omega arith) (omega arith)))

pub row_front : (a n k : ℕ) → n ≤ k → take n (range_with_len a k) ≡ range_with_len a n
row_front a zero k le = refl
row_front a (suc n) zero le = absurd (omega arith)
row_front a (suc n) (suc k) le = ap (λ (l : List ℕ). a ∷ l) (row_front (a + 1) n k (omega arith))

-- ---- bits

pub length_first : (used total : ℕ) → used ≤ total → length (first_bits used total) ≡ total
length_first used total le =
    let a : length (replicate used true) ≡ used = length-replicate {A = Bool} used true in
    let b : length (replicate (total - used) false) ≡ total - used = length-replicate {A = Bool} (total - used) false in
    omega (arith, length-append (replicate used true) (replicate (total - used) false))

-- the bit of a block
pub bit_used : (used total n : ℕ) → 1 ≤ n → n ≤ used → get_or (first_bits used total) (n - 1) false ≡ true
bit_used used total n some high =
    let a : length (replicate used true) ≡ used = length-replicate {A = Bool} used true in
    get_or_append_left (replicate used true) (replicate (total - used) false) false (n - 1) (omega arith) ∙ get_or-replicate {A = Bool} used (n - 1) true false (omega arith)

pub bit_free : (used total n : ℕ) → used < n → n ≤ total → get_or (first_bits used total) (n - 1) false ≡ false
bit_free used total n low high =
    let a : length (replicate used true) ≡ used = length-replicate {A = Bool} used true in
    get_or-append_right (replicate used true) (replicate (total - used) false) used (n - 1) false a (omega arith)
    ∙ get_or-replicate {A = Bool} (total - used) (n - 1 - used) false false (omega arith)

pub first_fixed : (used total : ℕ) → 5 ≤ used → HasFixed (first_bits used total)
first_fixed used total five n low high within = bit_used used total n low (omega arith)

-- ---- a map with no blocks in use but the first five

no_bytes : (count i : ℕ) → get_or (replicate {A = ℕ} count 0) i 0 ≡ 0
no_bytes zero i = refl
no_bytes (suc count) zero = refl
no_bytes (suc count) (suc i) = no_bytes count i

blank_mark : (count n : ℕ) → is_marked (replicate count 0) n ≡ false
unfolding is_marked
blank_mark count n =
    let none : get_or (replicate {A = ℕ} count 0) ((n - 1) / 8) 0 ≡ 0 = no_bytes count ((n - 1) / 8) in
    let shifted : 0 / 2 ^ (7 - (n - 1) % 8) ≡ 0 = zero-div (2 ^ (7 - (n - 1) % 8)) in
    rw (none, shifted) refl

blank_late : (count n : ℕ) → 6 ≤ n → is_used (replicate count 0) n ≡ false
unfolding is_used
blank_late count n low = let late : nat_le n 5 ≡ false = lt-leb n 5 (omega arith) in rw (late, blank_mark count n) refl

blank_row : (count a k : ℕ) → 6 ≤ a → map (is_used (replicate count 0)) (range_with_len a k) ≡ replicate k false
blank_row count a zero low = refl
blank_row count a (suc k) low = rw (blank_late count a low, blank_row count (a + 1) k (omega arith)) refl

blank_five : (count k : ℕ) → map (is_used (replicate count 0)) (range_with_len 1 (suc (suc (suc (suc (suc k)))))) ≡ true ∷ true ∷ true ∷ true ∷ true ∷ replicate k false
unfolding is_used
blank_five count k = ap (λ (l : List Bool). true ∷ true ∷ true ∷ true ∷ true ∷ l) (blank_row count 6 k (omega arith))

-- the bytes of such a map are zero
pub blank_bits : (count total : ℕ) → 5 ≤ total → bits_in total (replicate count 0) ≡ first_bits 5 total
unfolding bits_in
blank_bits count total five =
    let k = total - 5 in
    let e : total ≡ suc (suc (suc (suc (suc k)))) = omega arith in
    ap (λ (n : ℕ). map (is_used (replicate count 0)) (range_with_len 1 n)) e ∙ blank_five count k

free_row : (a k : ℕ) → free_from a (replicate k false) ≡ range_with_len a k
unfolding free_from
free_row a zero = refl
free_row a (suc k) = ap (λ (l : List ℕ). a ∷ l) (free_row (a + 1) k)

-- its free blocks are those from 6 on
pub blank_free : (total : ℕ) → free_blocks (first_bits 5 total) ≡ range_with_len 6 (total - 5)
unfolding free_from
blank_free total = free_row 6 (total - 5)

replicate_next : (k : ℕ) (rest : List Bool) → replicate k true ++ true ∷ rest ≡ replicate (k + 1) true ++ rest
replicate_next k rest =
    let one : k + 1 ≡ suc k = omega arith in
    go k ∙ ap (λ (n : ℕ). replicate n true ++ rest) (sym one)
  where
    go : (m : ℕ) → replicate m true ++ true ∷ rest ≡ replicate (suc m) true ++ rest
    go zero = refl
    go (suc m) = ap (λ (l : List Bool). true ∷ l) (go m)

mark_next : (a m : ℕ) (bits : List Bool) → with_marked (range_with_len a (suc m)) bits ≡ with_marked (range_with_len (a + 1) m) (set bits (a - 1) true)
unfolding with_marked
mark_next a m bits = refl

-- the next ones are marked
mark_row : (k m r : ℕ) → with_marked (range_with_len (k + 1) m) (replicate k true ++ replicate (m + r) false) ≡ replicate (k + m) true ++ replicate r false
unfolding with_marked
mark_row k zero r =
    let a : 0 + r ≡ r = omega arith in
    let b : k + 0 ≡ k = omega arith in
    rw (a, b) refl
mark_row k (suc m) r =
    let a : suc m + r ≡ suc (m + r) = omega arith in
    let b : k + 1 - 1 ≡ k = omega arith in
    let c : k + 1 + m ≡ k + suc m = omega arith in
    let more : List ℕ = range_with_len (k + 1 + 1) m in
    let front : List Bool = replicate k true in
    let rest : List Bool = replicate (m + r) false in
    let long : length front ≡ k = length-replicate {A = Bool} k true in
    let one : set (front ++ false ∷ rest) k true ≡ front ++ true ∷ rest =
    subst (λ (n : ℕ). set (front ++ false ∷ rest) n true ≡ front ++ true ∷ rest) long (set-append_seam front false rest true) in
    ap (λ (n : ℕ). with_marked (range_with_len (k + 1) (suc m)) (front ++ replicate n false)) a
    ∙ (mark_next (k + 1) m (front ++ false ∷ rest)
    ∙ (ap (λ (n : ℕ). with_marked more (set (front ++ false ∷ rest) n true)) b
    ∙ (ap (with_marked more) (one ∙ replicate_next k rest)
    ∙ (mark_row (k + 1) m r ∙ ap (λ (n : ℕ). replicate n true ++ replicate r false) c))))

pub first_marked : (total m : ℕ) → 5 + m ≤ total → with_marked (range_with_len 6 m) (first_bits 5 total) ≡ first_bits (5 + m) total
first_marked total m le =
    let r = total - (5 + m) in
    let e : total - 5 ≡ m + r = omega arith in
    ap (λ (n : ℕ). with_marked (range_with_len 6 m) (replicate 5 true ++ replicate n false)) e ∙ mark_row 5 m r

-- ---- the blocks of the map

pub nodes_none : (fan : ℕ) → pointer_count fan 1 ≡ 0
unfolding pointer_count levels levels_from pointers_to
nodes_none fan = rw (pow-zero fan) refl

-- a volume of at least 8 blocks has room for its map
pub map_fits : (bsize total : ℕ) → 512 ≤ bsize → 8 ≤ total → 5 + map_size bsize total ≤ total
unfolding map_size tree_size
map_fits bsize total low least =
    let d = up (up total 8) bsize in
    let a = up_spec total 8 (omega arith) in
    let a0 = a.0 in
    let a1 = a.1 in
    let b = up_spec (up total 8) bsize (omega arith) in
    let b1 = b.1 in
    let some = up_some (up total 8) bsize (omega arith) (up_some total 8 (omega arith) (omega arith)) in
    ⊎_elim
    (λ (one : d < 2).
    let is : d ≡ 1 = omega arith in
    let none : pointer_count (bsize / 4) d ≡ 0 = ap (pointer_count (bsize / 4)) is ∙ nodes_none (bsize / 4) in
    omega arith)
    (λ (more : 2 ≤ d).
    let q = d - 1 in
    let is : d ≡ q + 1 = omega arith in
    let split : d * bsize ≡ q * bsize + bsize = ap (λ (n : ℕ). n * bsize) is ∙ omega arith in
    let wide : q * 512 ≤ q * bsize = mul-le-mul_left q low in
    let nodes = nodes_few (bsize / 4) d (omega arith) in
    omega arith)
    (cases_lt d 2)

-- the blocks of a map are taken from a map without blocks
pub record TakesFirst (bsize total count : ℕ) : Type 0 where
  pub size : count ≡ map_size bsize total
  pub enough : count ≤ length (free_blocks (first_bits 5 total))
  pub row : take count (free_blocks (first_bits 5 total)) ≡ range_with_len 6 (map_size bsize total)
  pub marks : with_marked (take count (free_blocks (first_bits 5 total))) (first_bits 5 total) ≡ first_bits (5 + map_size bsize total) total

pub takes_first : (bsize total d p : ℕ) → 512 ≤ bsize → 8 ≤ total → d ≡ up (up total 8) bsize → p ≡ pointer_count (bsize / 4) d → TakesFirst bsize total (d + p)
unfolding map_size tree_size
takes_first bsize total d p low least is_d is_p =
    let k = map_size bsize total in
    let fits = map_fits bsize total low least in
    let size : d + p ≡ k = ap (λ (n : ℕ). d + n) is_p ∙ ap (λ (n : ℕ). n + pointer_count (bsize / 4) n) is_d in
    let long : length (free_blocks (first_bits 5 total)) ≡ total - 5 = ap (λ (l : List ℕ). length l) (blank_free total) ∙ length-range_with_len 6 (total - 5) in
    let front : take (d + p) (free_blocks (first_bits 5 total)) ≡ range_with_len 6 k =
    ap (λ (n : ℕ). take n (free_blocks (first_bits 5 total))) size ∙ (ap (take k) (blank_free total) ∙ row_front 6 k (total - 5) (omega arith)) in
    record {
      size = size;
      enough = omega arith;
      row = front;
      marks = ap (λ (l : List ℕ). with_marked l (first_bits 5 total)) front ∙ first_marked total k fits;
    }

-- ---- lost blocks

-- where each block that is marked is met, none is lost
pub none_lost : (bytes met : List ℕ) (n more : ℕ) → ((k : ℕ) → n ≤ k → k < n + more → is_marked bytes k ≡ true → holds met k ≡ true) → lost_count bytes met n more ≡ 0
unfolding lost_count
none_lost bytes met n zero each = refl
none_lost bytes met n (suc more) each =
    let rest : lost_count bytes met (n + 1) more ≡ 0 = none_lost bytes met (n + 1) more (λ k low high. each k (omega arith) (omega arith)) in
    omega (arith, rest, one (is_marked bytes n) (holds met n) (each n (omega arith) (omega arith)))
  where
    one : (marked met' : Bool) → (marked ≡ true → met' ≡ true) → ◌≡◌ {A = ℕ} (if marked && not met' then 1 else 0) 0
    one true true h = refl
    one true false h = absurd (clash (sym (h refl)))
    one false true h = refl
    one false false h = refl

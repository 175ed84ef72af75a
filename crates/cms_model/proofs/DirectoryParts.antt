-- The data blocks of a directory in which some entries stand.
use Rattle.std.proofs.Common.{◌≡◌, ◌⊎◌, inl, inr, ⊎_elim, ℕ, zero, suc, ◌+◌, ◌*◌, ◌/◌, ◌<◌, ◌≤◌, Bool, true, false, List, [], ◌∷◌, map, refl, sym, ◌∙◌, ap, subst, arith, mul-le-mul_right}
use Rattle.std.specs.Prelude.{cond}
use Rattle.std.specs.List.{filter, range_with_len}
use Rattle.std.specs.List.Sorted.{IsStrictlyIncreasing}
use Rattle.std.proofs.lemmas.Bool.{cases_lt}
use Rattle.std.proofs.lemmas.List.FromFn.{get_or-range_with_len, length-range_with_len}
use Rattle.std.proofs.lemmas.List.Kept.{IsStrictlyIncreasing-filter}
use Rattle.std.proofs.Math.Nat.{div-lt_iff_lt-mul, div-eq_of_lt-le, zero-div}
use Rattle.cms_journal.specs.Journal.{IsBlockSize}
use Rattle.cms_journal.proofs.Sizes.{block_bounds}
use Rattle.cms_fields.specs.Numbers.{up}
use Rattle.cms_model.specs.DirectoryParts.{all_entries, blocks_with, directory_count, entry_block}
use Rattle.cms_model.specs.Lists.{In, holds}
use Rattle.cms_model.specs.SharedTrees.{MayBeWritten}
use Rattle.cms_model.proofs.Quotients.{up_spec, up_some}
use Rattle.cms_model.proofs.Repeats.{in_held}

pub parts : (bsize : ℕ) → IsBlockSize bsize → (bsize / 64 * 64 ≡ bsize) × (8 ≤ bsize / 64)
parts bsize (inl e) = rw e (refl, omega arith)
parts bsize (inr (inl e)) = rw e (refl, omega arith)
parts bsize (inr (inr (inl e))) = rw e (refl, omega arith)
parts bsize (inr (inr (inr e))) = rw e (refl, omega arith)

-- ---- the data blocks of some entries

in_filter : (test : ℕ → Bool) (n : ℕ) (xs : List ℕ) → In n xs → test n ≡ true → In n (filter test xs)
in_filter test n [] there is = absurd there
in_filter test n (x ∷ xs) (inl e) is = let here : test x ≡ true = ap test (sym e) ∙ is in rw here (inl e)
in_filter test n (x ∷ xs) (inr more) is = go (test x) (in_filter test n xs more is)
  where
    go : (b : Bool) → In n (filter test xs) → In n (cond b (x ∷ filter test xs) (filter test xs))
    go true there = inr there
    go false there = there

from_filter : (test : ℕ → Bool) (n : ℕ) (xs : List ℕ) → In n (filter test xs) → In n xs
from_filter test n [] there = absurd there
from_filter test n (x ∷ xs) there = go (test x) there (from_filter test n xs)
  where
    go : (b : Bool) → In n (cond b (x ∷ filter test xs) (filter test xs)) → (In n (filter test xs) → In n xs) → In n (x ∷ xs)
    go true (inl e) deeper = inl e
    go true (inr more) deeper = inr (deeper more)
    go false more deeper = inr (deeper more)

pub in_row : (a n k : ℕ) → a ≤ n → n < a + k → In n (range_with_len a k)
in_row a n zero low high = absurd (omega arith)
in_row a n (suc k) low high = ⊎_elim (λ (is : n < a + 1). inl (omega arith)) (λ (past : a + 1 ≤ n). inr (in_row (a + 1) n k past (omega arith))) (cases_lt n (a + 1))

pub from_row : (a n k : ℕ) → In n (range_with_len a k) → n < a + k
from_row a n zero there = absurd there
from_row a n (suc k) (inl is) = omega arith
from_row a n (suc k) (inr more) = let less = from_row (a + 1) n k more in omega arith

pub row_low : (a n k : ℕ) → In n (range_with_len a k) → a ≤ n
row_low a n zero there = absurd there
row_low a n (suc k) (inl is) = omega arith
row_low a n (suc k) (inr more) = let low = row_low (a + 1) n k more in omega arith

pub row_ascends : (a n : ℕ) → IsStrictlyIncreasing (range_with_len a n)
row_ascends a n k less =
    let long = length-range_with_len a n in
    rw (get_or-range_with_len a n k 0 (omega arith), get_or-range_with_len a n (k + 1) 0 (omega arith)) (omega arith)

pub in_blocks : (bsize count n : ℕ) (numbers : List ℕ) → In n (map (entry_block bsize) numbers) → n < count → In n (blocks_with bsize count numbers)
unfolding blocks_with
in_blocks bsize count n numbers there less =
    in_filter (holds (map (entry_block bsize) numbers)) n (range_with_len 0 count) (in_row 0 n count (omega arith) (omega arith)) (in_held n (map (entry_block bsize) numbers) there)

pub blocks_within : (bsize count n : ℕ) (numbers : List ℕ) → In n (blocks_with bsize count numbers) → n < count
unfolding blocks_with
blocks_within bsize count n numbers there = let less = from_row 0 n count (from_filter (holds (map (entry_block bsize) numbers)) n (range_with_len 0 count) there) in omega arith

pub blocks_ascend : (bsize count : ℕ) (numbers : List ℕ) → IsStrictlyIncreasing (blocks_with bsize count numbers)
unfolding blocks_with
blocks_ascend bsize count numbers = IsStrictlyIncreasing-filter (holds (map (entry_block bsize) numbers)) (range_with_len 0 count) (row_ascends 0 count)

-- ---- they are enough

-- more need no fewer pieces
up_rises : (a b size : ℕ) → 0 < size → a ≤ b → up a size ≤ up b size
up_rises a b size some le =
    let one = (up_spec a size some).1 in
    let two = (up_spec b size some).0 in
    ⊎_elim
    (λ (more : up b size < up a size). let wide : suc (up b size) * size ≤ up a size * size = mul-le-mul_right size more in absurd (omega arith))
    (λ (fine : up a size ≤ up b size). fine)
    (cases_lt (up b size) (up a size))

-- an entry stands in one of the data blocks
pub entry_within : (bsize count k : ℕ) → IsBlockSize bsize → k < count → entry_block bsize (k + 2) < directory_count bsize count
entry_within bsize count k size less =
    let p = parts bsize size in
    let whole = p.0 in
    let some = p.1 in
    let each = bsize / 64 in
    let d = directory_count bsize count in
    let room = (up_spec (64 * (count + 2)) bsize (omega arith)).0 in
    let wide : d * bsize ≡ d * each * 64 = ap (λ (n : ℕ). d * n) (sym whole) ∙ (omega arith) in
    (div-lt_iff_lt-mul {k = each} {x = k + 2} {y = d} (omega arith)).1 (omega arith)

-- where the directory grows, the new entry stands in the one data block that there wasn't before
grown_at : (bsize count j : ℕ) → IsBlockSize bsize → directory_count bsize count ≤ j → j < directory_count bsize (suc count) → j ≡ entry_block bsize (count + 2)
grown_at bsize count j size low high =
    let p = parts bsize size in
    let whole = p.0 in
    let some = p.1 in
    let each = bsize / 64 in
    let before = up_spec (64 * (count + 2)) bsize (omega arith) in
    let after = up_spec (64 * (suc count + 2)) bsize (omega arith) in
    let a = before.0 in
    let b = after.1 in
    let wide : j * bsize ≡ j * each * 64 = ap (λ (n : ℕ). j * n) (sym whole) ∙ (omega arith) in
    let c : directory_count bsize count * bsize ≤ j * bsize = mul-le-mul_right bsize low in
    let e : suc j * bsize ≤ directory_count bsize (suc count) * bsize = mul-le-mul_right bsize high in
    let f : suc j * bsize ≡ j * bsize + bsize = omega arith in
    let g : (j + 1) * each ≡ j * each + each = omega arith in
    sym (div-eq_of_lt-le {k = j} each {m = count + 2} (omega arith) (omega arith))

-- the data blocks that there weren't before are among those of the entry that is added
pub grown_places : (bsize before after place j : ℕ) (numbers : List ℕ) → IsBlockSize bsize → (after ≤ before) ⊎ ((after ≡ suc before) × (place ≡ before)) → In (entry_block bsize (place + 2)) (map (entry_block bsize) numbers)
    → directory_count bsize before ≤ j → j < directory_count bsize after → In j (blocks_with bsize (directory_count bsize after) numbers)
grown_places bsize before after place j numbers size (inl fewer) there low high =
    let wide = (block_bounds bsize size).0 in
    let less = up_rises (64 * (after + 2)) (64 * (before + 2)) bsize (omega arith) (omega arith) in
    absurd (omega arith)
grown_places bsize before after place j numbers size (inr one) there low high =
    let is : j ≡ entry_block bsize (place + 2) = grown_at bsize before j size low (subst (λ (n : ℕ). j < directory_count bsize n) one.0 high) ∙ ap (λ (n : ℕ). entry_block bsize (n + 2)) (sym one.1) in
    in_blocks bsize (directory_count bsize after) j numbers (subst (λ (n : ℕ). In n (map (entry_block bsize) numbers)) (sym is) there) high

pub blocks_may : (bsize before after place : ℕ) (numbers : List ℕ) → IsBlockSize bsize → (after ≤ before) ⊎ ((after ≡ suc before) × (place ≡ before)) → In (entry_block bsize (place + 2)) (map (entry_block bsize) numbers)
    → MayBeWritten (directory_count bsize before) (directory_count bsize after) (blocks_with bsize (directory_count bsize after) numbers)
blocks_may bsize before after place numbers size long there = record {
  ascend = blocks_ascend bsize (directory_count bsize after) numbers;
  within = λ j in'. blocks_within bsize (directory_count bsize after) j numbers in';
  grown = λ j low high. grown_places bsize before after place j numbers size long there low high;
}

-- ---- all entries

pub in_mapped : (f : ℕ → ℕ) (n : ℕ) (xs : List ℕ) → In n xs → In (f n) (map f xs)
in_mapped f n [] there = absurd there
in_mapped f n (x ∷ xs) (inl e) = inl (ap f e)
in_mapped f n (x ∷ xs) (inr more) = inr (in_mapped f n xs more)

-- each data block has an entry
pub made_all : (bsize files n : ℕ) → IsBlockSize bsize → n < directory_count bsize files → In n (map (entry_block bsize) (all_entries files))
made_all bsize files n size less =
    let p = parts bsize size in
    let whole = p.0 in
    let some = p.1 in
    let each = bsize / 64 in
    let after = (up_spec (64 * (files + 2)) bsize (omega arith)).1 in
    let high : suc n * bsize ≤ directory_count bsize files * bsize = mul-le-mul_right bsize less in
    let wide : n * bsize ≡ n * each * 64 = ap (λ (k : ℕ). n * k) (sym whole) ∙ (omega arith) in
    let split : suc n * bsize ≡ n * bsize + bsize = omega arith in
    let next : (n + 1) * each ≡ n * each + each = omega arith in
    let there = in_mapped (entry_block bsize) (n * each) (all_entries files) (in_row 0 (n * each) (files + 2) (omega arith) (omega arith)) in
    let is : n * each / each ≡ n = div-eq_of_lt-le {k = n} each {m = n * each} (omega arith) (omega arith) in
    subst (λ (k : ℕ). In k (map (entry_block bsize) (all_entries files))) is there

pub all_blocks : (bsize files count n : ℕ) → IsBlockSize bsize → n < directory_count bsize files → n < count → In n (blocks_with bsize count (all_entries files))
all_blocks bsize files count n size less within = in_blocks bsize count n (all_entries files) (made_all bsize files n size less) within

-- there is at least one
pub some_blocks : (bsize files : ℕ) → IsBlockSize bsize → 0 < directory_count bsize files
some_blocks bsize files size = let low = (block_bounds bsize size).0 in let some = up_some (64 * (files + 2)) bsize (omega arith) (omega arith) in omega arith

-- the first is among those of its own entry
pub first_made : (bsize files : ℕ) (more : List ℕ) → IsBlockSize bsize → In 0 (blocks_with bsize (directory_count bsize files) (0 ∷ more))
first_made bsize files more size = in_blocks bsize (directory_count bsize files) 0 (0 ∷ more) (inl (sym (zero-div (bsize / 64)))) (some_blocks bsize files size)

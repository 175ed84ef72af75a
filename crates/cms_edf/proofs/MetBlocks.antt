-- Blocks that were met, told by bits.
use Rattle.std.proofs.Common.{◌≡◌, ⊎_elim, ℕ, zero, suc, ◌+◌, ◌-◌, ◌<◌, ◌≤◌, Bool, true, false, List, [], ◌∷◌, length, drop, slice_index, slice_index_or, slice_set, Some, None, refl, sym, ◌∙◌, ap, subst, arith}
use Rattle.std.specs.Prelude.{◌==◌, ◌||◌}
use Rattle.std.proofs.lemmas.Bool.{cases_eq, eq-eqb, ne_eqb}
use Rattle.std.proofs.lemmas.List.{drop_all, drop_more}
use Rattle.cms_model.specs.Lists.{In, holds, first_repeat}
use Rattle.cms_edf.specs.OpeningSteps.{AreBlocks, AreClear, Tells}
use Rattle.cms_edf.proofs.Listings.{stands}

-- a list from a place on
pub front_of : (xs : List ℕ) (k : ℕ) → k < length xs → drop k xs ≡ slice_index xs k ∷ drop (k + 1) xs
front_of xs k less = drop_more xs k 0 less

-- so far: the bits tell those that were met, and what is left is looked at behind them
pub record Meets (bits : List Bool) (left all : List ℕ) : Type 0 where
  pub others : List ℕ
  pub told : Tells bits others
  pub first : first_repeat others left ≡ first_repeat [] all
  pub every : (n : ℕ) → (holds left n || holds others n) ≡ holds all n

pub meets_first : (bits : List Bool) (all : List ℕ) → AreClear bits → Meets bits (drop 0 all) all
unfolding holds
meets_first bits all clear = record { others = []; told = λ n some. clear (n - 1); first = refl; every = λ n. either (holds all n) }
  where
    either : (b : Bool) → (b || false) ≡ b
    either true = refl
    either false = refl

-- the bits with one more
told_more : (bits : List Bool) (others : List ℕ) (b : ℕ) → 1 ≤ b → b - 1 < length bits → Tells bits others → Tells (slice_set bits (b - 1) true) (b ∷ others)
unfolding holds
told_more bits others b some within told n least = ⊎_elim
    (λ (e : n ≡ b). rw (eq-eqb n b e) (subst (λ (k : ℕ). slice_index_or (slice_set bits (b - 1) true) (k - 1) false ≡ true) (sym e) (set_here bits (b - 1) within)))
    (λ (ne : n ≡ b → ⊥). rw (ne_eqb n b ne) (set_aside bits (b - 1) (n - 1) (λ e. ne (omega arith)) ∙ told n least))
    (cases_eq n b)
  where
    set_here : (bs : List Bool) (k : ℕ) → k < length bs → slice_index_or (slice_set bs k true) k false ≡ true
    set_here [] k less = absurd (omega arith)
    set_here (x ∷ bs) zero less = refl
    set_here (x ∷ bs) (suc k) less = set_here bs k (omega arith)

    set_aside : (bs : List Bool) (k i : ℕ) → (i ≡ k → ⊥) → slice_index_or (slice_set bs k true) i false ≡ slice_index_or bs i false
    set_aside [] k i ne = refl
    set_aside (x ∷ bs) zero zero ne = absurd (ne refl)
    set_aside (x ∷ bs) zero (suc i) ne = refl
    set_aside (x ∷ bs) (suc k) zero ne = refl
    set_aside (x ∷ bs) (suc k) (suc i) ne = set_aside bs k i (λ e. ne (ap suc e))

bit_held : (bits : List Bool) (others : List ℕ) (b : ℕ) (bit : Bool) → Tells bits others → 1 ≤ b → slice_index_or bits (b - 1) false ≡ bit → holds others b ≡ bit
bit_held bits others b bit told some is = sym (told b some) ∙ is

-- a block that was met before
pub meets_again : (bits : List Bool) (all : List ℕ) (k b : ℕ) → k < length all → b ≡ slice_index all k → 1 ≤ b → slice_index_or bits (b - 1) false ≡ true
    → Meets bits (drop k all) all → Some b ≡ first_repeat [] all
unfolding first_repeat
meets_again bits all k b less at some is m =
    let split : drop k all ≡ b ∷ drop (k + 1) all = subst (λ (x : ℕ). drop k all ≡ x ∷ drop (k + 1) all) (sym at) (front_of all k less) in
    let h = bit_held bits m.others b true m.told some is in
    let here : first_repeat m.others (b ∷ drop (k + 1) all) ≡ Some b = rw h refl in
    sym here ∙ (ap (λ (l : List ℕ). first_repeat m.others l) (sym split) ∙ m.first)

-- a block that wasn't
pub meets_next : (bits : List Bool) (all : List ℕ) (k b : ℕ) → k < length all → b ≡ slice_index all k → 1 ≤ b → b - 1 < length bits → slice_index_or bits (b - 1) false ≡ false
    → Meets bits (drop k all) all → Meets (slice_set bits (b - 1) true) (drop (k + 1) all) all
unfolding first_repeat holds
meets_next bits all k b less at some within is m =
    let split : drop k all ≡ b ∷ drop (k + 1) all = subst (λ (x : ℕ). drop k all ≡ x ∷ drop (k + 1) all) (sym at) (front_of all k less) in
    let h = bit_held bits m.others b false m.told some is in
    let here : first_repeat m.others (b ∷ drop (k + 1) all) ≡ first_repeat (b ∷ m.others) (drop (k + 1) all) = rw h refl in
    record {
      others = b ∷ m.others;
      told = told_more bits m.others b some within m.told;
      first = sym here ∙ (ap (λ (l : List ℕ). first_repeat m.others l) (sym split) ∙ m.first);
      every = λ n. moved (n == b) (holds (drop (k + 1) all) n) (holds m.others n) ∙ (ap (λ (l : List ℕ). holds l n || holds m.others n) (sym split) ∙ m.every n);
    }
  where
    moved : (a r o : Bool) → (r || (a || o)) ≡ ((a || r) || o)
    moved true true o = refl
    moved true false o = refl
    moved false r o = refl

-- all were met, none twice
pub meets_last : (bits : List Bool) (all : List ℕ) (k : ℕ) → length all ≤ k → Meets bits (drop k all) all → None ≡ first_repeat [] all
unfolding first_repeat
meets_last bits all k past m = ap (λ (l : List ℕ). first_repeat m.others l) (sym (drop_all k all past)) ∙ m.first

pub meets_all : (bits : List Bool) (all : List ℕ) (k : ℕ) → length all ≤ k → Meets bits (drop k all) all → Tells bits all
unfolding holds
meets_all bits all k past m n some = m.told n some ∙ (ap (λ (l : List ℕ). holds l n || holds m.others n) (sym (drop_all k all past)) ∙ m.every n)

-- a block of the list is one of so many
pub block_within : (count : ℕ) (all : List ℕ) (k b : ℕ) → k < length all → b ≡ slice_index all k → AreBlocks count all → (1 ≤ b) × (b ≤ count)
block_within count all k b less at within = within b (subst (λ (n : ℕ). In n all) (sym at) (stands all k less))

-- The data blocks of a directory that are made anew, the next behind the other.
use Rattle.std.proofs.Common.{◌≡◌, ℕ, zero, suc, ◌+◌, ◌-◌, ◌/◌, ◌<◌, ◌≤◌, Bool, true, false, List, [], ◌∷◌, ◌++◌, length, take, get_or, refl, sym, ◌∙◌, ap, subst, arith}
use Rattle.std.specs.Prelude.{◌==◌, ◌||◌}
use Rattle.std.specs.List.{list_any}
use Rattle.std.proofs.lemmas.Bool.{eq-eqb, ne_eqb, or_left, or_right}
use Rattle.std.proofs.lemmas.List.{take_all, take_more}
use Rattle.cms_edf.specs.Allotments.{IsNextMade}
use Rattle.cms_edf.proofs.BlocksMade.{block_passed, block_taken, made_below}

any_both : (f : ℕ → Bool) (xs : List ℕ) (x : ℕ) → list_any f (xs ++ x ∷ []) ≡ (list_any f xs || f x)
any_both f [] x = any_one (f x)
  where
    any_one : (b : Bool) → (b || false) ≡ (false || b)
    any_one true = refl
    any_one false = refl
any_both f (y ∷ ys) x = ap (λ (b : Bool). f y || b) (any_both f ys x) ∙ sym (assoc (f y) (list_any f ys) (f x))
  where
    assoc : (a b c : Bool) → ((a || b) || c) ≡ (a || (b || c))
    assoc true b c = refl
    assoc false b c = refl

-- none of them was looked at
pub next_none : (each from count : ℕ) → from ≤ count → IsNextMade [] each from count count
next_none each from count within = record {
  low = within;
  high = omega arith;
  none = λ block low less. refl;
  is = λ less. absurd (omega arith);
}

-- one more comes first
pub next_taken : (made : List ℕ) (k each from count next block : ℕ) → k < length made → IsNextMade (take k made) each from count next → block ≡ get_or made k 0 / each → from ≤ block → block < next
    → IsNextMade (take (k + 1) made) each from count block
next_taken made k each from count next block within n is low less =
    let x = get_or made k 0 in
    let high = n.high in
    subst (λ (l : List ℕ). IsNextMade l each from count block) (sym (take_more made k 0 within)) (record {
      low = low;
      high = omega arith;
      none = λ b from' less'. any_both (λ y. b == y / each) (take k made) x
          ∙ (ap (λ (t : Bool). t || (b == x / each)) (n.none b from' (omega arith)) ∙ ne_eqb b (x / each) (λ same. omega (arith, same, is, less')));
      is = λ less'. any_both (λ y. block == y / each) (take k made) x
          ∙ or_right (list_any (λ y. block == y / each) (take k made)) (block == x / each) (eq-eqb block (x / each) is);
    })

-- or doesn't
pub next_passed : (made : List ℕ) (k each from count next block : ℕ) → k < length made → IsNextMade (take k made) each from count next → block ≡ get_or made k 0 / each
    → ((from ≤ block) → (block < next) → ⊥) → IsNextMade (take (k + 1) made) each from count next
next_passed made k each from count next block within n is other =
    let x = get_or made k 0 in
    subst (λ (l : List ℕ). IsNextMade l each from count next) (sym (take_more made k 0 within)) (record {
      low = n.low;
      high = n.high;
      none = λ b from' less'. any_both (λ y. b == y / each) (take k made) x
          ∙ (ap (λ (t : Bool). t || (b == x / each)) (n.none b from' less')
          ∙ ne_eqb b (x / each) (λ same. let at : b ≡ block = same ∙ sym is in other (subst (λ (m : ℕ). from ≤ m) at from') (subst (λ (m : ℕ). m < next) at less')));
      is = λ less'. any_both (λ y. next == y / each) (take k made) x
          ∙ or_left (list_any (λ y. next == y / each) (take k made)) (next == x / each) (n.is less');
    })

pub next_all : (made : List ℕ) (k each from count next : ℕ) → length made ≤ k → IsNextMade (take k made) each from count next → IsNextMade made each from count next
next_all made k each from count next past n = subst (λ (l : List ℕ). IsNextMade l each from count next) (take_all k made past) n

-- ---- the data blocks up to the next

skipped : (made blocks : List ℕ) (each a k : ℕ) → blocks ≡ made_below made each a → ((b : ℕ) → a ≤ b → b < a + k → list_any (λ n. b == n / each) made ≡ false) → blocks ≡ made_below made each (a + k)
skipped made blocks each a zero is none = is ∙ ap (made_below made each) (omega arith)
skipped made blocks each a (suc k) is none =
    block_passed made blocks each (a + k) (skipped made blocks each a k is (λ b low less. none b low (omega arith))) (none (a + k) (omega arith) (omega arith)) ∙ ap (made_below made each) (omega arith)

-- so many blocks are those below the next
pub record IsUpTo (made : List ℕ) (each count next : ℕ) (blocks : List ℕ) : Type 0 where
  pub blocks_are : blocks ≡ made_below made each next
  pub high : next ≤ count
  pub is : next < count → list_any (λ n. next == n / each) made ≡ true

up_to : (made blocks : List ℕ) (each from count next : ℕ) → blocks ≡ made_below made each from → IsNextMade made each from count next → IsUpTo made each count next blocks
up_to made blocks each from count next is n =
    let low = n.low in
    let sum : from + (next - from) ≡ next = omega arith in
    record {
      blocks_are = skipped made blocks each from (next - from) is (λ b low' less. n.none b low' (omega arith)) ∙ ap (made_below made each) sum;
      high = n.high;
      is = n.is;
    }

pub first_up_to : (made blocks : List ℕ) (each count next : ℕ) → blocks ≡ [] → IsNextMade made each 0 count next → IsUpTo made each count next blocks
first_up_to made blocks each count next none n = up_to made blocks each 0 count next none n

pub next_up_to : (made blocks blocks' : List ℕ) (each count at next : ℕ) → IsUpTo made each count at blocks → at < count → blocks' ≡ blocks ++ at ∷ [] → IsNextMade made each (at + 1) count next
    → IsUpTo made each count next blocks'
next_up_to made blocks blocks' each count at next u less is n = up_to made blocks' each (at + 1) count next (is ∙ block_taken made blocks each at u.blocks_are (u.is less)) n

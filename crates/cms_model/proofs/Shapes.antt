-- The levels of a tree are the least with room for all data blocks.
use Rattle.std.proofs.Common.{◌≡◌, ◌↔◌, ⊎_elim, ℕ, zero, suc, ◌+◌, ◌^◌, ◌<◌, ◌≤◌, true, false, sym, subst, arith}
use Rattle.std.proofs.Math.Nat.{pow-zero, pow-le-pow_left, pow-le-pow_right}
use Rattle.std.specs.Prelude.{nat_le, nat_lt}
use Rattle.std.proofs.lemmas.Bool.{and_parts, and_from, le-leb, leb-true, leb-false, lt-ltb, ltb-true, cases_Bool, cases_lt}
use Rattle.cms_fields.specs.Numbers.{is_shape}
use Rattle.cms_model.specs.Sizes.{levels_from, levels}

-- so many levels are needed, and have room
pub record Needs (fan blocks k : ℕ) : Type 0 where
  pub fits : blocks ≤ fan ^ k
  pub fewer : (j : ℕ) → j < k → fan ^ j < blocks

pub needs_shape : (fan blocks k : ℕ) → Needs fan blocks k → is_shape fan blocks k ≡ true
needs_shape fan blocks zero n = le-leb blocks 1 (let unit = pow-zero fan in let fits = n.fits in omega arith)
needs_shape fan blocks (suc k) n =
    and_from (nat_lt (fan ^ k) blocks) (nat_le blocks (fan ^ suc k)) (lt-ltb (fan ^ k) blocks (n.fewer k (omega arith))) (le-leb blocks (fan ^ suc k) n.fits)

pub shape_needs : (fan blocks k : ℕ) → 1 ≤ fan → is_shape fan blocks k ≡ true → Needs fan blocks k
shape_needs fan blocks zero some is = record {
  fits = (let unit = pow-zero fan in let fits = leb-true blocks 1 is in omega arith);
  fewer = λ j low. absurd (omega arith);
}
shape_needs fan blocks (suc k) some is =
    let both = and_parts (nat_lt (fan ^ k) blocks) (nat_le blocks (fan ^ suc k)) is in
    let low = ltb-true (fan ^ k) blocks both.0 in
    record {
      fits = leb-true blocks (fan ^ suc k) both.1;
      fewer = λ j below. (let power : fan ^ j ≤ fan ^ k = pow-le-pow_right some {i = j} {j = k} (omega arith) in omega arith);
    }

needs_one : (fan blocks k l : ℕ) → Needs fan blocks k → Needs fan blocks l → k ≡ l
needs_one fan blocks k l a b = ⊎_elim
    (λ (less : k < l). let fits = a.fits in let more = b.fewer k less in absurd (omega arith))
    (λ (le : l ≤ k). ⊎_elim (λ (less : l < k). let fits = b.fits in let more = a.fewer l less in absurd (omega arith)) (λ (ge : k ≤ l). omega arith) (cases_lt l k))
    (cases_lt k l)

-- the search for them finds them
search_needs : (fan blocks more k : ℕ) → ((j : ℕ) → j < k → fan ^ j < blocks) → blocks ≤ fan ^ (k + more) → Needs fan blocks (levels_from fan blocks k more)
unfolding levels_from
search_needs fan blocks zero k fewer room =
    let same : k + 0 ≡ k = omega arith in record { fits = subst (λ (e : ℕ). blocks ≤ fan ^ e) same room; fewer = fewer }
search_needs fan blocks (suc more) k fewer room = ⊎_elim
    (λ (is : nat_le blocks (fan ^ k) ≡ true). rw is (record { fits = leb-true blocks (fan ^ k) is; fewer = fewer }))
    (λ (is : nat_le blocks (fan ^ k) ≡ false).
    let past : fan ^ k < blocks = leb-false blocks (fan ^ k) is in
    let same : k + suc more ≡ k + 1 + more = omega arith in
    rw is (search_needs fan blocks more (k + 1)
    (λ j low. ⊎_elim (λ (less : j < k). fewer j less) (λ (ge : k ≤ j). let at : k ≡ j = omega arith in subst (λ (e : ℕ). fan ^ e < blocks) at past) (cases_lt j k))
    (subst (λ (e : ℕ). blocks ≤ fan ^ e) same room)))
    (cases_Bool (nat_le blocks (fan ^ k)))

pub levels_needs : (fan blocks : ℕ) → 2 ≤ fan → blocks < 2 ^ 32 → Needs fan blocks (levels fan blocks)
unfolding levels
levels_needs fan blocks wide small =
    let power : 2 ^ 32 ≤ fan ^ 32 = pow-le-pow_left wide 32 in
    search_needs fan blocks 32 0 (λ j low. absurd (omega arith)) (omega arith)

pub shape_least : (fan blocks k : ℕ) → 2 ≤ fan → blocks < 2 ^ 32 → (is_shape fan blocks k ≡ true) ↔ (k ≡ levels fan blocks)
shape_least fan blocks k wide small = (
  λ is. needs_one fan blocks k (levels fan blocks) (shape_needs fan blocks k (omega arith) is) (levels_needs fan blocks wide small),
  λ is. needs_shape fan blocks k (subst (Needs fan blocks) (sym is) (levels_needs fan blocks wide small)),
)

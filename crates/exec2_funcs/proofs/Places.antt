-- The first place at which a text goes on with a part.
use Rattle.std.proofs.Common.{◌≡◌, ◌∷◌, [], ◌+◌, ◌-◌, ◌<◌, ◌≤◌, ℕ, suc, List, length, take, drop, refl, sym, arith, Bool, true, false, cond}
use Rattle.std.specs.Prelude.{Option, Some, None, not, nat_lt, position, option_map}
use Rattle.std.specs.List.{position_or_len}
use Rattle.std.specs.Option.{option_map_or}
use Rattle.std.proofs.lemmas.Bool.Decides.{nat_tests}
use Rattle.std.proofs.lemmas.List.{take_all}
use Rattle.cms_text.specs.Texts.{Text}
use Rattle.exec2_funcs.specs.Values.{rests}

later : (n m : ℕ) → cond (nat_lt (1 + n) (suc m)) (Some (1 + n)) None ≡ option_map (λ k. k + 1) (cond (nat_lt n m) (Some n) None)
later n m = elim (nat_lt n m) as (λ b. nat_lt n m ≡ b → cond (nat_lt (1 + n) (suc m)) (Some (1 + n)) None ≡ option_map (λ k. k + 1) (cond b (Some n) None)) [
  | true ↦ λ e. grind (arith, nat_tests)
  | false ↦ λ e. grind (arith, nat_tests)
] refl

-- the first is at once, or one later than among the others
pub position-cons : {A : Type 0} (test : A → Bool) (x : A) (xs : List A) → position test (x ∷ xs) ≡ cond (test x) (Some 0) (option_map (λ k. k + 1) (position test xs))
position-cons test x xs = elim (test x) as (λ b. cond (nat_lt (cond (not b) (1 + position_or_len test xs) 0) (suc (length xs))) (Some (cond (not b) (1 + position_or_len test xs) 0)) None
    ≡ cond b (Some 0) (option_map (λ k. k + 1) (position test xs))) [
      | true ↦ grind (arith, nat_tests)
      | false ↦ later (position_or_len test xs) (length xs)
    ]

from_here : ℕ → Option ℕ → ℕ
from_here place found = option_map_or (λ k. k + place) found 0

one_on : (place : ℕ) (found : Option ℕ) → from_here place (option_map (λ k. k + 1) found) ≡ from_here (place + 1) found
unfolding from_here
one_on place None = refl
one_on place (Some k) = omega arith

module _ (test : Text → Bool) where
  pub goes_on_here : (rest : Text) (place : ℕ) → test rest ≡ true → option_map_or (λ k. k + place) (position test (rests rest)) 0 ≡ place
  unfolding rests
  goes_on_here [] place here = rw (position-cons test [] [], here) (omega arith)
  goes_on_here (byte ∷ more) place here = rw (position-cons test (byte ∷ more) (rests more), here) (omega arith)

  pub nowhere : (rest : Text) (place : ℕ) → length rest < 1 → test rest ≡ false → option_map_or (λ k. k + place) (position test (rests rest)) 0 ≡ 0
  unfolding rests
  nowhere [] place none other = rw (position-cons test [] [], other) refl
  nowhere (byte ∷ more) place none other = absurd (omega arith)

  pub further_on : (rest : Text) (place : ℕ) → 1 ≤ length rest → test rest ≡ false
      → option_map_or (λ k. k + (place + 1)) (position test (rests (take (length rest - 1) (drop 1 rest)))) 0 ≡ option_map_or (λ k. k + place) (position test (rests rest)) 0
  unfolding rests from_here
  further_on [] place some other = absurd (omega arith)
  further_on (byte ∷ more) place some other =
      let e : suc (length more) - 1 ≡ length more = omega arith in
      rw (e, take_all (length more) more (omega arith), position-cons test (byte ∷ more) (rests more), other) (sym (one_on place (position test (rests more))))

pub one_shorter : (place total : ℕ) (rest : Text) → place + length rest ≡ total → 1 ≤ length rest → place + 1 + length (take (length rest - 1) (drop 1 rest)) ≡ total
one_shorter place total [] is some = absurd (omega arith)
one_shorter place total (byte ∷ more) is some =
    let e : suc (length more) - 1 ≡ length more = omega arith in
    rw (e, take_all (length more) more (omega arith)) (omega arith)

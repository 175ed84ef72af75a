-- Decimal digits, one after another.
use Rattle.std.proofs.Common.{◌≡◌, ◌<◌, ◌≤◌, ℕ, ◌+◌, ◌*◌, ◌-◌, true, false, List, [], ◌∷◌, length, get_or, drop, Some, None, refl, ap, ◌∙◌, ⊎_elim, arith}
use Rattle.std.proofs.lemmas.Bool.{cases_Bool}
use Rattle.std.proofs.lemmas.List.{at_drop_all, drop_more}
use Rattle.std.proofs.lemmas.Bool.Decides.{nat_tests}
use Rattle.cms_words.specs.Numbers.{decimal_from, is_digit, up_to}

from_digit : (high c : ℕ) (cs : List ℕ) → is_digit c ≡ true → decimal_from high (c ∷ cs) ≡ decimal_from (high * 10 + (c - 48)) cs
unfolding decimal_from
from_digit high c cs h = rw h refl

from_other : (high c : ℕ) (cs : List ℕ) → is_digit c ≡ false → decimal_from high (c ∷ cs) ≡ None
unfolding decimal_from
from_other high c cs h = rw h refl

from_none : (high : ℕ) → decimal_from high [] ≡ Some high
unfolding decimal_from
from_none high = refl

-- one more digit
pub digit_goes_on : (high i d : ℕ) (cs : List ℕ) → i < length cs → is_digit (get_or cs i d) ≡ true → decimal_from high (drop i cs) ≡ decimal_from (high * 10 + (get_or cs i d - 48)) (drop (i + 1) cs)
digit_goes_on high i d cs inside h = ap (decimal_from high) (drop_more cs i d inside) ∙ from_digit high (get_or cs i d) (drop (i + 1) cs) h

pub digit_stops : (high i d : ℕ) (cs : List ℕ) → i < length cs → is_digit (get_or cs i d) ≡ false → decimal_from high (drop i cs) ≡ None
digit_stops high i d cs inside h = ap (decimal_from high) (drop_more cs i d inside) ∙ from_other high (get_or cs i d) (drop (i + 1) cs) h

-- digits behind a number that is too large
too_many : (most high : ℕ) (cs : List ℕ) → most < high → up_to most (decimal_from high cs) ≡ None
too_many most high [] h = rw from_none (grind (arith, nat_tests))
too_many most high (c ∷ cs) h = ⊎_elim
    (λ (is : is_digit c ≡ true). rw (from_digit high c cs is) (too_many most (high * 10 + (c - 48)) cs (omega arith)))
    (λ (is : is_digit c ≡ false). rw (from_other high c cs is) refl)
    (cases_Bool (is_digit c))

pub digit_goes_too_far : (most high i d : ℕ) (cs : List ℕ) → i < length cs → is_digit (get_or cs i d) ≡ true → most < high * 10 + (get_or cs i d - 48)
    → up_to most (decimal_from high (drop i cs)) ≡ None
digit_goes_too_far most high i d cs inside h far = ap (up_to most) (digit_goes_on high i d cs inside h) ∙ too_many most (high * 10 + (get_or cs i d - 48)) (drop (i + 1) cs) far

pub at_the_end : (high : ℕ) (cs : List ℕ) (i : ℕ) → length cs ≤ i → decimal_from high (drop i cs) ≡ Some high
at_the_end high cs i h = at_drop_all (decimal_from high) cs i h ∙ from_none high

-- The seconds of a zone, as numbers with a sign.
use Rattle.std.proofs.Common.{◌≡◌, ◌∙◌, ℕ, ◌+◌, ◌*◌, ◌<◌, ◌≤◌, Fits, SFits, to_z, of_z, w32, ℤ, pos, negsuc, ◌-ℤ◌, ◌≤ℤ◌, neg_ℤ, ap, sym, subst, arith}
use Rattle.std.proofs.lemmas.Int.{ints, to_z-of_z, to_z_pos}

pub seconds_small : (hours minutes : ℕ) → hours ≤ 14 → minutes ≤ 59 → (hours * 60 + minutes) * 60 < 2147483648
seconds_small hours minutes h m = omega arith

pub within_day : (hours minutes : ℕ) → hours ≤ 14 → minutes ≤ 59 → (hours * 60 + minutes) * 60 ≤ 54000
within_day hours minutes h m = omega arith

pub minutes_fit : (hours : ℕ) → hours ≤ 14 → Fits w32 (hours * 60)
minutes_fit hours h = omega arith

pub more_minutes_fit : (hours minutes : ℕ) → hours ≤ 14 → minutes ≤ 59 → Fits w32 (hours * 60 + minutes)
more_minutes_fit hours minutes h m = omega arith

pub seconds_fit : (hours minutes : ℕ) → hours ≤ 14 → minutes ≤ 59 → Fits w32 ((hours * 60 + minutes) * 60)
seconds_fit hours minutes h m = omega arith

pub signed_fit : (n : ℕ) → n < 2147483648 → SFits w32 (pos n)
signed_fit n few = omega (arith, ints)

pub negative : (n : ℕ) → n < 2147483648 → SFits w32 (pos 0 -ℤ pos n)
negative n few = omega (arith, ints)

pub negated : (n : ℕ) → pos 0 -ℤ pos n ≡ neg_ℤ (pos n)
negated n = omega (arith, ints)

pub west_fit : (n : ℕ) → n < 2147483648 → SFits w32 (pos 0 -ℤ to_z w32 n)
west_fit n few = subst (λ (z : ℤ). SFits w32 (pos 0 -ℤ z)) (sym (to_z_pos w32 n few)) (negative n few)

pub west_is : (n : ℕ) → n < 2147483648 → to_z w32 (of_z w32 (pos 0 -ℤ to_z w32 n)) ≡ neg_ℤ (pos n)
west_is n few = to_z-of_z w32 (pos 0 -ℤ to_z w32 n) (west_fit n few) ∙ ap (λ (z : ℤ). pos 0 -ℤ z) (to_z_pos w32 n few) ∙ negated n

pub less_than_day : (n : ℕ) → n ≤ 54000 → (negsuc 53999 ≤ℤ pos n) × (pos n ≤ℤ pos 54000)
less_than_day n few = (omega (arith, ints), omega (arith, ints))

pub less_than_day_back : (n : ℕ) → n ≤ 54000 → (negsuc 53999 ≤ℤ (pos 0 -ℤ pos n)) × ((pos 0 -ℤ pos n) ≤ℤ pos 54000)
less_than_day_back n few = (omega (arith, ints), omega (arith, ints))

pub east_within : (n : ℕ) → n < 2147483648 → n ≤ 54000 → (negsuc 53999 ≤ℤ to_z w32 n) × (to_z w32 n ≤ℤ pos 54000)
east_within n few day = subst (λ (z : ℤ). (negsuc 53999 ≤ℤ z) × (z ≤ℤ pos 54000)) (sym (to_z_pos w32 n few)) (less_than_day n day)

pub west_within : (n : ℕ) → n < 2147483648 → n ≤ 54000
    → (negsuc 53999 ≤ℤ to_z w32 (of_z w32 (pos 0 -ℤ to_z w32 n))) × (to_z w32 (of_z w32 (pos 0 -ℤ to_z w32 n)) ≤ℤ pos 54000)
west_within n few day = subst (λ (z : ℤ). (negsuc 53999 ≤ℤ z) × (z ≤ℤ pos 54000)) (negated n ∙ sym (west_is n few)) (less_than_day_back n day)

-- Return codes in five places.
use Rattle.std.proofs.Common.{◌≡◌, ℕ, zero, suc, ◌+◌, ◌/◌, ◌%◌, List, [], ◌∷◌, ℤ, pos, negsuc, refl, ap, arith, of_z, FitsSigned, w32, ◌<ℤ◌}
use Rattle.std.specs.Prelude.{unsigned_abs, ◌++◌}
use Rattle.std.proofs.lemmas.Int.{ints}
use Rattle.cms_search.specs.Ready.{digits_of, code_places, ready_with, ready_line}

abbrev pub digit_at : ℕ → ℕ → ℕ
digit_at n unit = 0xF0 + n / unit % 10

abbrev pub last_four : ℕ → List ℕ
last_four n = digit_at n 1000 ∷ digit_at n 100 ∷ digit_at n 10 ∷ digit_at n 1 ∷ []

pub four_digits : (n : ℕ) → last_four n ≡ digits_of 4 n
unfolding digits_of
four_digits n = refl

pub five_digits : (n : ℕ) → digit_at n 10000 ∷ last_four n ≡ digits_of 5 n
unfolding digits_of
five_digits n = refl

pub places_from : (code : ℤ) (number : ℕ) → number ≡ unsigned_abs code → (code <ℤ pos 0 → ⊥) → digit_at number 10000 ∷ last_four number ≡ code_places code
unfolding code_places
places_from (pos n) number is least = rw is (five_digits n)
places_from (negsuc n) number is least = absurd (least (omega (arith, ints)))

pub places_signed : (code : ℤ) (number : ℕ) → number ≡ unsigned_abs code → code <ℤ pos 0 → 0x60 ∷ last_four number ≡ code_places code
unfolding code_places
places_signed (pos n) number is less = absurd (omega (arith, ints))
places_signed (negsuc n) number is less = rw is (ap (λ (l : List ℕ). 0x60 ∷ l) (four_digits (suc n)))

pub ready_none : (code : ℤ) → FitsSigned w32 code → of_z w32 code ≡ 0 → 0xD9 ∷ 0x5E ∷ [] ≡ ready_line code
unfolding ready_line
ready_none (pos zero) fits is = refl
ready_none (pos (suc n)) fits is = absurd (cc)
ready_none (negsuc n) fits is = absurd (omega (arith, ints, fits))

pub ready_some : (code : ℤ) → (of_z w32 code ≡ 0 → ⊥) → ready_with code ≡ ready_line code
unfolding ready_line
ready_some (pos zero) some = absurd (some refl)
ready_some (pos (suc n)) some = refl
ready_some (negsuc n) some = refl

pub ready_from : (code : ℤ) (places : List ℕ) → places ≡ code_places code → 0xD9 ∷ 0x4D ∷ (places ++ 0x5D ∷ 0x5E ∷ []) ≡ ready_with code
ready_from code places are = rw are refl

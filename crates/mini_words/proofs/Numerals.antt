-- Decimal numbers, as std reads them.
use Rattle.std.proofs.Common.{◌≡◌, ◌≢◌, ℕ, ◌<◌, ◌≤◌, ◌^◌, Bool, false, true, List, [], ◌∷◌, length, get_or, refl, ap, arith}
use Rattle.std.specs.Prelude.{None, Some, Result, Ok, Err, ◌&&◌, nat_lt, if◌then◌else◌}
use Rattle.std.specs.Result.{result_ok}
use Rattle.std.specs.Str.{all_ascii_digits}
use Rattle.std.specs.Str.Parse.{ParsesUnsigned}
use Rattle.std.proofs.lemmas.Bool.Decides.{nat_tests}
use Rattle.std.proofs.lemmas.Str.Parse.{IsNumeralModel, numerals_by_fold, parse_plain, tells_all_ascii_digits}
use Rattle.cms_words.specs.Numbers.{is_between}
use Rattle.mini_words.specs.Words.{begins_numeral, numeral_of, value_from}

own : IsNumeralModel (λ ds. all_ascii_digits ds ≡ true) (value_from 0)
own = numerals_by_fold _ tells_all_ascii_digits value_from (record { empty = λ n. refl; more = λ n c cs h. refl })

high_digit : (c : ℕ) → is_between 49 57 c ≡ true → 49 ≤ c
high_digit c h = grind (arith, nat_tests)

no_plus : (word : List ℕ) → begins_numeral word ≡ true → get_or word 0 0 ≢ 43
no_plus [] h plus = cc
no_plus (c ∷ cs) h plus =
    let high = high_digit c h in
    omega arith

both : (a b : Bool) → (a && b) ≡ true → b ≡ true
both true b h = h
both false b h = absurd (cc)

neither : (a b : Bool) (v : ℕ) → (a ≡ true → b ≡ true → ⊥) → None ≡ (if a && b then Some v else None)
neither true true v never = absurd (never refl refl)
neither true false v never = refl
neither false b v never = refl

below : (n m : ℕ) → nat_lt n m ≡ true → n < m
below n m h = grind (arith, nat_tests)

is_below : (n m : ℕ) → n < m → nat_lt n m ≡ true
is_below n m h = grind (arith, nat_tests)

some_first : (word : List ℕ) → begins_numeral word ≡ true → 0 < length word
some_first [] h = absurd (cc)
some_first (c ∷ cs) h = omega arith

pub numeral_read : {E : Type 0} (word : List ℕ) (r : Result ℕ E) → begins_numeral word ≡ true → ParsesUnsigned 32 10 word r → result_ok r ≡ numeral_of word
unfolding numeral_of
numeral_read {E} word (Ok n) first h =
    let read : ((all_ascii_digits word ≡ true) × (0 < length word) × (value_from 0 word < 2 ^ 32)) × (n ≡ value_from 0 word) = parse_plain own {E = E} 32 word (Ok n) h (no_plus word first) in
    rw (first, read.0.0, is_below (value_from 0 word) (2 ^ 32) read.0.2) (ap Some read.1)
numeral_read {E} word (Err e) first h =
    let unread : (all_ascii_digits word ≡ true) × (0 < length word) × (value_from 0 word < 2 ^ 32) → ⊥ = parse_plain own {E = E} 32 word (Err e) h (no_plus word first) in
    neither _ _ (value_from 0 word) (λ digits small. unread (both _ _ digits, some_first word first, below _ _ small))

-- the first character isn't 1 to 9
pub no_numeral : (word : List ℕ) → begins_numeral word ≡ false → None ≡ numeral_of word
unfolding numeral_of
no_numeral word h = rw h refl

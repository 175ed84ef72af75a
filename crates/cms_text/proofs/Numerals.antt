-- Numbers, digit by digit.
use Rattle.std.proofs.Common.{◌≡◌, ◌∙◌, ◌∷◌, [], ◌+◌, ◌-◌, ◌*◌, ◌<◌, ◌≤◌, ◌^◌, ℕ, zero, suc, length, take, drop, get_or, refl, sym, ap, subst, arith, rules, Bool, true, false, cond}
use Rattle.std.specs.Prelude.{Option, Some, None, ◌&&◌, ◌==◌, nat_le, ℤ, FitsSigned}
use Rattle.std.specs.Int.{w64}
use Rattle.std.specs.List.{list_all, filter_map}
use Rattle.std.proofs.lemmas.Bool.Decides.{nat_tests}
use Rattle.std.proofs.lemmas.List.Folds.{list_all_at, list_all_more}
use Rattle.std.proofs.lemmas.List.Sums.{fold_more}
use Rattle.std.proofs.lemmas.List.{take_all}
use Rattle.std.proofs.Math.Nat.{pow-le-pow_right}
use Rattle.std.proofs.lemmas.Nat.{pow-add}
use Rattle.std.proofs.lemmas.Fmt.{length_signed_le}
use Rattle.std.specs.Fmt.{signed_decimal}
use Rattle.std.specs.List.{cons_option}
use Rattle.cms_ebcdic.specs.CodePage.{code_of}
use lib.Signed.{mag}
use Rattle.cms_text.specs.Texts.{Text, ebcdic}
use Rattle.cms_text.specs.Numbers.{fits, is_digit, magnitude_of, negative_of, number_of, positive_of, value_of, written}

pub wrong_length : (most : ℕ) (digits : Text) → (nat_le 1 (length digits) && nat_le (length digits) most) ≡ false → magnitude_of most digits ≡ None
unfolding magnitude_of
wrong_length most digits wrong = rw wrong refl

no_digit : (b : Bool) (x : Option ℕ) → cond (b && false) x None ≡ None
no_digit true x = refl
no_digit false x = refl

pub not_digits : (most : ℕ) (digits : Text) (i : ℕ) → i < length digits → is_digit (get_or digits i 0) ≡ false → magnitude_of most digits ≡ None
unfolding magnitude_of
not_digits most digits i here other = rw (list_all_at is_digit digits i 0 here other) (no_digit (nat_le 1 (length digits) && nat_le (length digits) most) (Some (value_of digits)))

pub digits_read : (most : ℕ) (digits : Text) (i value : ℕ) → (nat_le 1 (length digits) && nat_le (length digits) most) ≡ true → length digits ≤ i
    → list_all is_digit (take i digits) ≡ true → value ≡ value_of (take i digits) → magnitude_of most digits ≡ Some value
unfolding magnitude_of
digits_read most digits i value right past each is =
    let e : take i digits ≡ digits = take_all i digits past in
    let each' : list_all is_digit digits ≡ true = subst (λ (ds : Text). list_all is_digit ds ≡ true) e each in
    rw (right, each') (ap Some (sym (is ∙ ap value_of e)))

-- a further digit still fits
pub digit_fits : (value i digit : ℕ) → value < 10 ^ i → i < 19 → digit ≤ 9 → value * 10 + digit < 2 ^ 64
digit_fits value i digit small few low =
    let ten : zero < 10 = omega arith in
    let few' : i ≤ 18 = omega arith in
    let bound : 10 ^ i ≤ 10 ^ 18 = pow-le-pow_right ten few' in
    omega (arith, bound)

-- a digit more
both_true : (a b : Bool) → a ≡ true → b ≡ true → (a && b) ≡ true
both_true a b is is' = rw (is, is') refl

pub digits_more : (digits : Text) (i : ℕ) → i < length digits → is_digit (get_or digits i 0) ≡ true → list_all is_digit (take i digits) ≡ true → list_all is_digit (take (i + 1) digits) ≡ true
digits_more digits i here digit each = list_all_more is_digit digits i 0 here ∙ both_true (list_all is_digit (take i digits)) (is_digit (get_or digits i 0)) each digit

pub value_more : (digits : Text) (i value digit : ℕ) → i < length digits → digit ≡ get_or digits i 0 - 0xF0 → value ≡ value_of (take i digits) → value * 10 + digit ≡ value_of (take (i + 1) digits)
value_more digits i value digit here is so = rw (is, so) (sym (fold_more (λ n byte. n * 10 + (byte - 0xF0)) 0 digits i 0 here))

pub small_more : (i value digit : ℕ) → value < 10 ^ i → digit ≤ 9 → value * 10 + digit < 10 ^ (i + 1)
small_more i value digit small low = let power = pow-add 10 i 1 in omega (arith, small, low, power)

-- so many digits write a number below that power of ten
pub few_small : (most i value : ℕ) → value < 10 ^ i → i ≤ most → value < 10 ^ most
few_small most i value small few = let ten : zero < 10 = omega arith in omega (arith, small, pow-le-pow_right ten few)

-- ---- signs

rest_of : Text → Text
rest_of word = take (length word - 1) (drop 1 word)

rest_is : (first : ℕ) (digits : Text) → take (suc (length digits) - 1) (drop 1 (first ∷ digits)) ≡ digits
rest_is first digits = let e : suc (length digits) - 1 ≡ length digits = omega arith in rw e (take_all (length digits) digits (omega arith))

same_true : (a b : ℕ) → a ≡ b → (a == b) ≡ true
same_true a b e = grind (arith, nat_tests)

pub same_false : (a b : ℕ) → (a ≡ b → ⊥) → (a == b) ≡ false
same_false a b e = grind (arith, nat_tests)

pub with_minus : (word : Text) → 1 ≤ length word → get_or word 0 0 ≡ 0x60 → negative_of (take (length word - 1) (drop 1 word)) ≡ number_of word
unfolding number_of
with_minus [] some sign = absurd (omega arith)
with_minus (first ∷ digits) some sign = rw (same_true first 0x60 sign) (ap negative_of (rest_is first digits))

pub with_plus : (word : Text) → 1 ≤ length word → get_or word 0 0 ≡ 0x4E → positive_of (take (length word - 1) (drop 1 word)) ≡ number_of word
unfolding number_of
with_plus [] some sign = absurd (omega arith)
with_plus (first ∷ digits) some sign =
    let other : (first == 0x60) ≡ false = same_false first 0x60 (λ e. absurd (omega arith)) in
    rw (other, same_true first 0x4E sign) (ap positive_of (rest_is first digits))

pub no_word : (word : Text) → length word < 1 → None ≡ number_of word
unfolding number_of
no_word [] none = refl
no_word (first ∷ digits) none = absurd (omega arith)

pub without_sign : (word : Text) → 1 ≤ length word → (get_or word 0 0 ≡ 0x60 → ⊥) → (get_or word 0 0 ≡ 0x4E → ⊥) → positive_of word ≡ number_of word
unfolding number_of
without_sign [] some minus plus = absurd (omega arith)
without_sign (first ∷ digits) some minus plus = rw (same_false first 0x60 minus, same_false first 0x4E plus) refl

-- ---- written numbers

length-filter_map : (h : ℕ → Option ℕ) (bytes : Text) → length (filter_map h bytes) ≤ length bytes
length-filter_map h [] = omega arith
length-filter_map h (byte ∷ more) = elim (h byte) as (λ o. length (cons_option o (filter_map h more)) ≤ suc (length more))
    [ None ↦ omega (arith, length-filter_map h more) | Some x ↦ omega (arith, length-filter_map h more) ]

pub written_short : (z : ℤ) → FitsSigned w64 z → length (written z) ≤ 255
unfolding written ebcdic
written_short z fits =
    let size : mag z < 2 ^ 63 = search rules in
    omega (arith, length-filter_map code_of (signed_decimal z), length_signed_le 20 z (omega arith) size)

pub written_is : (z : ℤ) (bytes : Text) → bytes ≡ ebcdic (signed_decimal z) → bytes ≡ written z
unfolding written
written_is z bytes e = e

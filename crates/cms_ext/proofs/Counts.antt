-- Tally's count, as it is written and read.
use Rattle.std.proofs.Common.{◌≡◌, ◌∙◌, ◌+◌, ◌-◌, ◌*◌, ◌<◌, ◌≤◌, ◌^◌, ℕ, zero, suc, List, [], ◌∷◌, arith, ap, length, pos, refl, subst, sym}
use Rattle.std.specs.Prelude.{Option, Some, None, codes, fold}
use Rattle.std.specs.Fmt.{signed_decimal}
use Rattle.std.proofs.lemmas.List.{length-append}
use Rattle.std.specs.List.{cons_option, filter_map}
use Rattle.std.specs.Int.{IsInRange}
use Rattle.std.specs.Str.Parse.{AllDigits}
use Rattle.std.proofs.lemmas.Fmt.{digits_value-decimal, length_signed_le}
use lib.Signed.{mag}
use Rattle.std.proofs.lemmas.Str.Parse.{numerals_by_fold, tells_digits}
use Rattle.cms_ebcdic.specs.CodePage.{code_of, code_page}
use Rattle.cms_text.specs.Numbers.{decimal_of, value_of, written}
use Rattle.cms_text.specs.Texts.{coded, ebcdic}
use Rattle.cms_ext.specs.Tally.{most, tally_line}

-- a digit's code
digit_code : (k : ℕ) → k < 10 → code_of (48 + k) ≡ Some (0xF0 + k)
unfolding code_of code_page
digit_code zero h = refl
digit_code (suc zero) h = refl
digit_code (suc (suc zero)) h = refl
digit_code (suc (suc (suc zero))) h = refl
digit_code (suc (suc (suc (suc zero)))) h = refl
digit_code (suc (suc (suc (suc (suc zero))))) h = refl
digit_code (suc (suc (suc (suc (suc (suc zero)))))) h = refl
digit_code (suc (suc (suc (suc (suc (suc (suc zero))))))) h = refl
digit_code (suc (suc (suc (suc (suc (suc (suc (suc zero)))))))) h = refl
digit_code (suc (suc (suc (suc (suc (suc (suc (suc (suc zero))))))))) h = refl
digit_code (suc (suc (suc (suc (suc (suc (suc (suc (suc (suc k)))))))))) h = absurd (omega (arith, h))

abbrev with_digit : ℕ → ℕ → ℕ
with_digit n byte = n * 10 + (byte - 0xF0)

-- the value of ASCII digits behind a number
value_from : ℕ → List ℕ → ℕ
value_from n digits = fold with_digit n (ebcdic digits)

value_none : (n : ℕ) → value_from n [] ≡ n
unfolding ebcdic value_from
value_none n = refl

value_more : (n c : ℕ) (cs : List ℕ) → IsInRange 48 57 c → value_from n (c ∷ cs) ≡ value_from (n * 10 + (c - 48)) cs
unfolding ebcdic value_from
value_more n c cs within =
    let e : c ≡ 48 + (c - 48) = omega (arith, within.0, within.1) in
    let code : code_of c ≡ Some (0xF0 + (c - 48)) =
    subst (λ (x : ℕ). code_of x ≡ Some (0xF0 + (c - 48))) (sym e) (digit_code (c - 48) (omega (arith, within.0, within.1))) in
    ap (λ (o : Option ℕ). fold with_digit n (cons_option o (filter_map code_of cs))) code
    ∙ ap (λ (m : ℕ). fold with_digit m (filter_map code_of cs)) (omega arith)

-- a count is read as it was written
pub count_read : (n : ℕ) → n < 2 ^ 64 → value_of (decimal_of n) ≡ n
unfolding decimal_of written ebcdic value_from
count_read n small =
    digits_value-decimal (numerals_by_fold (AllDigits 10) tells_digits value_from (record { empty = value_none; more = value_more })) n small

-- ---- the line

length-filter_map : (h : ℕ → Option ℕ) (bytes : List ℕ) → length (filter_map h bytes) ≤ length bytes
length-filter_map h [] = omega arith
length-filter_map h (byte ∷ more) = elim (h byte) as (λ o. length (cons_option o (filter_map h more)) ≤ suc (length more)) [
  | None ↦ omega (arith, length-filter_map h more)
  | Some x ↦ omega (arith, length-filter_map h more)
]

decimal_short : (n : ℕ) → n ≤ most → length (decimal_of n) ≤ 20
unfolding decimal_of written ebcdic
decimal_short n few =
    let size : mag (pos n) < 2 ^ 63 = omega (arith, few) in
    omega (arith, length-filter_map code_of (signed_decimal (pos n)), length_signed_le 19 (pos n) (omega (arith, few)) size)

-- it is short enough
pub tally_short : (n : ℕ) → n ≤ most → length (tally_line n) ≤ 255
tally_short n few =
    let parts = length-append (coded (codes "TALLY ")) (decimal_of n) in
    omega (arith, parts, decimal_short n few)

-- Decimal numbers in EBCDIC, as they are read and written.
use Rattle.std.specs.Prelude.{ℕ, ◌+◌, ◌-◌, ◌*◌, ◌/◌, ◌%◌, ◌^◌, ◌==◌, nat_le, nat_lt, Bool, ◌&&◌, if◌then◌else◌, [], ◌∷◌, length, fold, Option, Some, None, ℤ, pos, negsuc, neg_ℤ}
use Rattle.std.specs.List.{list_all}
use Rattle.std.specs.Option.{option_and_then}
use Rattle.std.specs.Fmt.{signed_decimal}
use Rattle.cms_text.specs.Texts.{Text, ebcdic}

-- the digits 0 to 9
abbrev pub is_digit : ℕ → Bool
is_digit byte = nat_le 0xF0 byte && nat_le byte 0xF9

-- the number that decimal digits write
abbrev pub value_of : Text → ℕ
value_of digits = fold (λ n byte. n * 10 + (byte - 0xF0)) 0 digits

-- the same of 1 to so many digits
unfoldable pub magnitude_of : ℕ → Text → Option ℕ
magnitude_of most digits = if (nat_le 1 (length digits) && nat_le (length digits) most)
    && list_all is_digit digits then Some (value_of digits) else None

-- whether a number is one of signed 64 bits
abbrev pub fits : ℤ → Bool
fits (pos n) = nat_lt n (2 ^ 63)
fits (negsuc n) = nat_lt n (2 ^ 63)

-- a number, where it fits signed 64 bits
abbrev pub within : ℤ → Option ℤ
within z = if fits z then Some z else None

-- digits with a minus before them, and with a plus or no sign
abbrev pub negative_of : Text → Option ℤ
negative_of digits = option_and_then (λ n. within (neg_ℤ (pos n))) (magnitude_of 19 digits)

-- the number of up to 19 digits, where it fits
abbrev pub positive_of : Text → Option ℤ
positive_of digits = option_and_then (λ n. within (pos n)) (magnitude_of 19 digits)

-- the number that a word stands for, if it does: an optional sign and 1 to 19 digits
unfoldable pub number_of : Text → Option ℤ
number_of [] = None
number_of (first ∷ digits) = if first == 0x60 then negative_of digits else
    (if first == 0x4E then positive_of digits else positive_of (first ∷ digits))

-- a number without leading zeros
unfoldable pub written : ℤ → Text
written z = ebcdic (signed_decimal z)

-- a number from 0 without leading zeros
unfoldable pub decimal_of : ℕ → Text
decimal_of n = written (pos n)

-- the last two decimal digits
abbrev pub two_digits : ℕ → Text
two_digits n = (0xF0 + n / 10 % 10) ∷ (0xF0 + n % 10) ∷ []

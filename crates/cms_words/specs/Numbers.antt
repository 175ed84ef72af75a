-- Numbers among the program's words, in ASCII.
use Rattle.std.specs.Prelude.{ℕ, ◌+◌, ◌*◌, ◌-◌, ℤ, pos, neg_ℤ, ◌&&◌, Bool, if◌then◌else◌, ◌==◌, nat_le, List, [], ◌∷◌, length, take, drop, Option, Some, None}
use Rattle.std.specs.Option.{option_and_then}

infixl 10 ◌>>=◌
-- goes on with what is there, or with nothing
abbrev pub ◌>>=◌ : {A B : Type 0} → Option A → (A → Option B) → Option B
o >>= f = option_and_then f o

-- a number is from the least to the most
abbrev pub is_between : ℕ → ℕ → ℕ → Bool
is_between least most n = nat_le least n && nat_le n most

-- 0 to 9
unfoldable pub is_digit : ℕ → Bool
is_digit c = is_between 48 57 c

-- the value of a hexadecimal digit, in either case
unfoldable pub hex_digit : ℕ → Option ℕ
hex_digit c =
    if is_between 48 57 c then Some (c - 48)
    else if is_between 65 70 c then Some (c - 55)
    else if is_between 97 102 c then Some (c - 87)
    else None

-- the value of hexadecimal digits behind others with this value
unfoldable pub hex_from : ℕ → List ℕ → Option ℕ
hex_from high [] = Some high
hex_from high (c ∷ cs) = option_and_then (λ d. hex_from (high * 16 + d) cs) (hex_digit c)

-- a device's number: three hexadecimal digits, not 000
unfoldable pub device_of : List ℕ → Option ℕ
device_of word = if length word == 3 then option_and_then (λ n. if n == 0 then None else Some n) (hex_from 0 word) else None

-- the value of decimal digits behind others with this value
unfoldable pub decimal_from : ℕ → List ℕ → Option ℕ
decimal_from high [] = Some high
decimal_from high (c ∷ cs) = if is_digit c then decimal_from (high * 10 + (c - 48)) cs else None

-- a number, where it is at most so much
abbrev pub up_to : ℕ → Option ℕ → Option ℕ
up_to most None = None
up_to most (Some n) = if nat_le n most then Some n else None

-- a number, where it is at least so much
abbrev pub at_least : ℕ → Option ℕ → Option ℕ
at_least least None = None
at_least least (Some n) = if nat_le least n then Some n else None

-- 1 to 10 digits, with a value of at most so much
unfoldable pub number_up_to : ℕ → List ℕ → Option ℕ
number_up_to most word = if is_between 1 10 (length word) then up_to most (decimal_from 0 word) else None

-- E adds to the clock, W takes away
abbrev pub on_side : ℕ → ℕ → Option ℤ
on_side side seconds = if side == 69 then Some (pos seconds) else if side == 87 then Some (neg_ℤ (pos seconds)) else None

-- the seconds of a zone: E or W, and four digits hhmm, hours to 14 and minutes to 59
unfoldable pub offset_of : List ℕ → Option ℤ
offset_of [] = None
offset_of (side ∷ digits) = if length digits == 4 then (do
  hours ← up_to 14 (decimal_from 0 (take 2 digits))
  minutes ← up_to 59 (decimal_from 0 (drop 2 digits))
  on_side side ((hours * 60 + minutes) * 60))
    else None

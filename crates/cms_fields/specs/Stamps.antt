-- Stamps, and the six bytes of a date and the flags byte that spell one.
use Rattle.std.specs.Prelude.{ℕ, ◌+◌, ◌*◌, ◌/◌, ◌%◌, Bool, ◌==◌, ◌&&◌, ◌||◌, nat_le, nat_lt, bit_and, if◌then◌else◌, List, [], ◌∷◌, Option, Some, None}
use Rattle.cms_names.specs.Names.{is_between}
use Rattle.cms_text.specs.Bytes.{byte}
use Rattle.cms_fields.specs.declared.time.Stamp.{Stamp}

-- the days of a month, in a leap year or not
unfoldable pub days_of_month : Bool → ℕ → ℕ
days_of_month is_leap month =
    if month == 2 then (if is_leap then 29 else 28)
    else if (month == 4) || (month == 6) || (month == 9) || (month == 11) then 30 else 31

-- a date and time that there is, of a year from 1900 to 2099: each fourth of a century from its first on is a leap year, so 1900 is one
unfoldable pub is_stamp : Stamp → Bool
is_stamp s =
    is_between 1900 2099 s.year && is_between 1 12 s.month && is_between 1 (days_of_month (s.year % 4 == 0) s.month) s.day
    && nat_le s.hour 23 && nat_le s.minute 59 && nat_le s.second 59

-- a byte of two decimal digits
abbrev pub is_packed : ℕ → Bool
is_packed b = nat_lt (b / 16) 10 && nat_lt (b % 16) 10

-- the number of two digits in a byte
abbrev pub unpacked : ℕ → ℕ
unpacked b = b / 16 * 10 + b % 16

-- the first year of the century that the flags tell: the bit 08 is set for 2000 to 2099
abbrev pub century : ℕ → ℕ
century flags = if bit_and flags 0x08 == 0 then 1900 else 2000

-- the stamp in the six bytes at a place, with these flags: year of the century, month, day, hour, minute, second
unfoldable pub stamp_at : List ℕ → ℕ → ℕ → Stamp
stamp_at bytes at flags = record {
  year = century flags + unpacked (byte bytes at);
  month = unpacked (byte bytes (at + 1));
  day = unpacked (byte bytes (at + 2));
  hour = unpacked (byte bytes (at + 3));
  minute = unpacked (byte bytes (at + 4));
  second = unpacked (byte bytes (at + 5));
}

-- the six bytes at a place have two decimal digits each
unfoldable pub are_packed : List ℕ → ℕ → Bool
are_packed bytes at =
    is_packed (byte bytes at) && is_packed (byte bytes (at + 1)) && is_packed (byte bytes (at + 2))
    && is_packed (byte bytes (at + 3)) && is_packed (byte bytes (at + 4)) && is_packed (byte bytes (at + 5))

-- the six bytes at a place, with these flags, spell a stamp
unfoldable pub has_stamp : List ℕ → ℕ → ℕ → Bool
has_stamp bytes at flags = are_packed bytes at && is_stamp (stamp_at bytes at flags)

-- the stamp that the six bytes of a date and the flags spell, if they spell one
unfoldable pub stamp_in : List ℕ → ℕ → Option Stamp
stamp_in date flags = if has_stamp date 0 flags then Some (stamp_at date 0 flags) else None

-- a number of two digits in a byte
abbrev pub packed : ℕ → ℕ
packed n = n / 10 * 16 + n % 10

-- the six bytes of the date that spell a stamp, whatever its century
unfoldable pub stamp_bytes : Stamp → List ℕ
stamp_bytes s =
    packed (s.year % 100) ∷ packed s.month ∷ packed s.day ∷ packed s.hour ∷ packed s.minute ∷ packed s.second ∷ []

-- the flags that tell its century
unfoldable pub stamp_flags : Stamp → ℕ
stamp_flags s = if nat_le 2000 s.year then 0x08 else 0

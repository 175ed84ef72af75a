-- Worked examples of the definitions.
use Rattle.std.proofs.Common.{◌≡◌, refl, pos, negsuc, [], ◌∷◌, Some, None}
use Rattle.cms_fields.specs.Stamps.{days_of_month, is_stamp, stamp_at, are_packed, has_stamp, stamp_in, stamp_flags}
use Rattle.cms_fields.specs.Moments.{moment_of, moment_after, seconds_to, counted_off, days_along}

-- 951,782,400 seconds after the beginning of 1970 it is 29 February 2000
leap_day : moment_of (pos 951_782_400) (pos 0) ≡ record { year = 2000; month = 2; day = 29; hour = 0; minute = 0; second = 0 }
unfolding moment_after counted_off days_of_month
leap_day = refl

-- later moments are held at the end of 2099
last : moment_of (pos 9_951_782_400) (negsuc 4) ≡ record { year = 2099; month = 12; day = 31; hour = 23; minute = 59; second = 59 }
unfolding moment_after counted_off days_of_month
last = refl

-- and earlier ones at the beginning of 1970
first : moment_of (pos 3) (negsuc 4) ≡ record { year = 1970; month = 1; day = 1; hour = 0; minute = 0; second = 0 }
unfolding moment_after counted_off days_of_month
first = refl

seconds_of_last : seconds_to (record { year = 2099; month = 12; day = 31; hour = 23; minute = 59; second = 59 }) ≡ 4_102_444_799
unfolding seconds_to days_along days_of_month
seconds_of_last = refl

-- 29 February 00 is a date of either century; of the flags the bit 08 alone is looked at
leap_days : (stamp_in (0x00 ∷ 0x02 ∷ 0x29 ∷ 0 ∷ 0 ∷ 0 ∷ []) 0xF7 ≡ Some (record { year = 1900; month = 2; day = 29; hour = 0; minute = 0; second = 0 }))
    × (stamp_in (0x00 ∷ 0x02 ∷ 0x29 ∷ 0 ∷ 0 ∷ 0 ∷ []) 0xFF ≡ Some (record { year = 2000; month = 2; day = 29; hour = 0; minute = 0; second = 0 }))
    × (stamp_in (0x01 ∷ 0x02 ∷ 0x29 ∷ 0 ∷ 0 ∷ 0 ∷ []) 0x08 ≡ None)
unfolding stamp_in has_stamp are_packed stamp_at is_stamp days_of_month
leap_days = (refl, refl, refl)

last_second_of_99 : (stamp_in (0x99 ∷ 0x12 ∷ 0x31 ∷ 0x23 ∷ 0x59 ∷ 0x59 ∷ []) 0 ≡ Some (record { year = 1999; month = 12; day = 31; hour = 23; minute = 59; second = 59 }))
    × (stamp_in (0x99 ∷ 0x12 ∷ 0x31 ∷ 0x23 ∷ 0x59 ∷ 0x59 ∷ []) 0x08 ≡ Some (record { year = 2099; month = 12; day = 31; hour = 23; minute = 59; second = 59 }))
    × (stamp_in (0x9A ∷ 0x12 ∷ 0x31 ∷ 0x23 ∷ 0x59 ∷ 0x59 ∷ []) 0x08 ≡ None)
unfolding stamp_in has_stamp are_packed stamp_at is_stamp days_of_month
last_second_of_99 = (refl, refl, refl)

flags_of_centuries : (stamp_flags (record { year = 1999; month = 12; day = 31; hour = 23; minute = 59; second = 59 }) ≡ 0)
    × (stamp_flags (record { year = 2000; month = 1; day = 1; hour = 0; minute = 0; second = 0 }) ≡ 8)
unfolding stamp_flags
flags_of_centuries = (refl, refl)

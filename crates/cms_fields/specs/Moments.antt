-- Moments: the calendar from 1970 to 2099, counted in seconds.
use Rattle.std.specs.Prelude.{◌≡◌, ℕ, zero, suc, ◌+◌, ◌-◌, ◌*◌, ◌/◌, ◌%◌, Bool, not, ◌==◌, ◌&&◌, ◌||◌, nat_le, nat_lt, if◌then◌else◌, min, ℤ, pos, negsuc, ◌+ℤ◌}
use Rattle.jiff_core.specs.declared.civil.datetime.DateTime.{DateTime}
use Rattle.cms_names.specs.Names.{is_between}
use Rattle.cms_fields.specs.Stamps.{days_of_month}
use Rattle.cms_fields.specs.declared.time.Moment.{Moment}
use Rattle.cms_fields.specs.declared.time.Stamp.{Stamp}

-- every fourth year is a leap year, but of the centuries only every fourth
abbrev pub is_leap_year : ℕ → Bool
is_leap_year year = (year % 4 == 0) && (not (year % 100 == 0) || (year % 400 == 0))

-- the days of a year
abbrev pub days_of_year : ℕ → ℕ
days_of_year year = if is_leap_year year then 366 else 365

-- a civil moment from 1970-01-01 00:00:00 to 2099-12-31 23:59:59
unfoldable pub is_moment : Moment → Bool
is_moment m =
    is_between 1970 2099 m.year && is_between 1 12 m.month
    && is_between 1 (days_of_month (is_leap_year m.year) m.month) m.day
    && nat_le m.hour 23 && nat_le m.minute 59 && nat_le m.second 59

-- 1970-01-01 00:00:00
abbrev pub first_moment : Moment
first_moment = record { year = 1970; month = 1; day = 1; hour = 0; minute = 0; second = 0 }

-- a day counted off along periods of so many days each: the period in which it lies, at most so many further on, and its place there
unfoldable pub counted_off : (ℕ → ℕ) → ℕ → ℕ → ℕ → ℕ × ℕ
counted_off days_of zero period day = (period, day)
counted_off days_of (suc more) period day =
    if nat_lt day (days_of period) then (period, day)
    else counted_off days_of more (period + 1) (day - days_of period)

-- the year from 1970 on in which a day lies that is counted from 1970-01-01, and the day's place in it from 0
abbrev pub year_and_rest : ℕ → ℕ × ℕ
year_and_rest day = counted_off days_of_year 129 1970 day

-- the month in which a day of a year lies, and the day's place in it, both days from 0
abbrev pub month_and_rest : ℕ → ℕ → ℕ × ℕ
month_and_rest year day = counted_off (days_of_month (is_leap_year year)) 11 1 day

-- the moment at so many seconds after 1970-01-01 00:00:00
unfoldable pub moment_after : ℕ → Moment
moment_after seconds =
    let in_year = year_and_rest (seconds / 86400) in
    let in_month = month_and_rest in_year.0 in_year.1 in
    record {
      year = in_year.0;
      month = in_month.0;
      day = in_month.1 + 1;
      hour = seconds / 3600 % 24;
      minute = seconds / 60 % 60;
      second = seconds % 60;
    }

-- 2099-12-31 23:59:59
abbrev pub last_second : ℕ
last_second = 4_102_444_799

-- a count of seconds held between 1970-01-01 00:00:00 and 2099-12-31 23:59:59
abbrev pub held : ℤ → ℕ
held (pos seconds) = min seconds last_second
held (negsuc n) = 0

-- the civil moment at so many seconds after 1970-01-01 00:00:00 UTC, where civil time is so many seconds ahead of UTC
abbrev pub moment_of : ℤ → ℤ → Moment
moment_of seconds offset = moment_after (held (seconds +ℤ offset))

-- the days of so many periods from one on
unfoldable pub days_along : (ℕ → ℕ) → ℕ → ℕ → ℕ
days_along days_of first zero = 0
days_along days_of first (suc n) = days_of first + days_along days_of (first + 1) n

-- the days from 1970-01-01 to the day of a moment
abbrev pub days_to : Moment → ℕ
days_to m =
    days_along days_of_year 1970 (m.year - 1970)
    + (days_along (days_of_month (is_leap_year m.year)) 1 (m.month - 1) + (m.day - 1))

-- the seconds from 1970-01-01 00:00:00 to a moment
unfoldable pub seconds_to : Moment → ℕ
seconds_to m = days_to m * 86400 + (m.hour * 3600 + (m.minute * 60 + m.second))

-- the stamp of a moment
unfoldable pub stamp_of : Moment → Stamp
stamp_of m = record {
  year = m.year;
  month = m.month;
  day = m.day;
  hour = m.hour;
  minute = m.minute;
  second = m.second;
}

-- a clock shows the moment
abbrev pub IsShown : Moment → DateTime → Type 0
IsShown m shown =
    (shown.date.year ≡ pos m.year) × (shown.date.month ≡ m.month) × (shown.date.day ≡ m.day)
    × (shown.time.hour ≡ m.hour) × (shown.time.minute ≡ m.minute) × (shown.time.second ≡ m.second)

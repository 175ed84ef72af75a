-- The calendar of moments: days counted off along years and months, and the count of a moment.
use Rattle.std.proofs.Common.{◌≡◌, ℕ, zero, suc, ◌+◌, ◌-◌, ◌/◌, ◌%◌, ◌<◌, ◌≤◌, refl, ap, arith, Bool, true, false, ⊎_elim}
use Rattle.std.specs.Prelude.{nat_lt, cond}
use Rattle.std.proofs.lemmas.Bool.{le-leb, ltb-true, ltb-false, cases_Bool, and_from}
use Rattle.cms_fields.specs.Stamps.{days_of_month}
use Rattle.cms_fields.specs.Moments.{counted_off, days_along, days_of_year, is_leap_year, moment_after, last_second, seconds_to, days_to, is_moment}
use Rattle.cms_fields.specs.declared.time.Moment.{Moment}
use Rattle.cms_fields.proofs.Dates.{IsDated, dated_from}

-- a day lies in this period at this place
pub record LiesIn (days_of : ℕ → ℕ) (first day more : ℕ) (found : ℕ × ℕ) : Type 0 where
  pub from : first ≤ found.0
  pub near : found.0 ≤ first + more
  pub total : days_along days_of first (found.0 - first) + found.1 ≡ day
  pub within : found.1 < days_of found.0

pub no_days : (days_of : ℕ → ℕ) (first k : ℕ) → k ≡ 0 → days_along days_of first k ≡ 0
unfolding days_along
no_days days_of first k e = rw e refl

some_days : (days_of : ℕ → ℕ) (first k n : ℕ) → k ≡ n + 1 → days_along days_of first k ≡ days_of first + days_along days_of (first + 1) n
unfolding days_along
some_days days_of first k n e = let next : k ≡ suc n = omega arith in rw next refl

-- a day that lies in one of the periods is counted off to it
counted : (days_of : ℕ → ℕ) (more first day : ℕ) → day < days_along days_of first (more + 1) → LiesIn days_of first day more (counted_off days_of more first day)
unfolding counted_off
counted days_of zero first day lt =
    let all = some_days days_of first (0 + 1) 0 refl in
    let rest = no_days days_of (first + 1) 0 refl in
    let here = no_days days_of first (first - first) (omega arith) in
    record { from = omega arith; near = omega arith; total = omega (arith, here); within = omega (arith, lt, all, rest) }
counted days_of (suc more) first day lt = ⊎_elim
    (λ (yes : nat_lt day (days_of first) ≡ true).
    let here = no_days days_of first (first - first) (omega arith) in
    let near : day < days_of first = ltb-true day (days_of first) yes in
    rw yes (record { from = omega arith; near = omega arith; total = omega (arith, here); within = near }))
    (λ (no : nat_lt day (days_of first) ≡ false).
    let far : days_of first ≤ day = ltb-false day (days_of first) no in
    let all = some_days days_of first (suc more + 1) (more + 1) (omega arith) in
    let r = counted days_of more (first + 1) (day - days_of first) (omega (arith, lt, all, far)) in
    let found = counted_off days_of more (first + 1) (day - days_of first) in
    let sum = some_days days_of first (found.0 - first) (found.0 - (first + 1)) (omega (arith, r.from)) in
    rw no (record { from = omega (arith, r.from); near = omega (arith, r.near); total = omega (arith, sum, r.total, far); within = r.within }))
    (cases_Bool (nat_lt day (days_of first)))

-- the last period of several
pub last_days : (days_of : ℕ → ℕ) (k first : ℕ) → days_along days_of first (k + 1) ≡ days_along days_of first k + days_of (first + k)
last_days days_of zero first =
    let all = some_days days_of first (0 + 1) 0 refl in
    let rest = no_days days_of (first + 1) 0 refl in
    let none = no_days days_of first 0 refl in
    let here : days_of (first + 0) ≡ days_of first = ap days_of (omega arith) in
    omega (arith, all, rest, none, here)
last_days days_of (suc k) first =
    let all = some_days days_of first (suc k + 1) (k + 1) (omega arith) in
    let fewer = some_days days_of first (suc k) k (omega arith) in
    let here : days_of (first + 1 + k) ≡ days_of (first + suc k) = ap days_of (omega arith) in
    omega (arith, all, fewer, last_days days_of k (first + 1), here)

-- the years from 1970 to 2099, and the months of a year
all_years : days_along days_of_year 1970 130 ≡ 47482
unfolding days_along
all_years = refl

all_months : (is_leap : Bool) → days_along (days_of_month is_leap) 1 12 ≡ cond is_leap 366 365
unfolding days_along days_of_month
all_months true = refl
all_months false = refl

-- what the moment after some seconds is
pub record IsAfter (seconds : ℕ) (m : Moment) : Type 0 where
  pub first_year : 1970 ≤ m.year
  pub last_year : m.year ≤ 2099
  pub date : IsDated (is_leap_year m.year) m.month m.day m.hour m.minute m.second
  pub days : days_to m ≡ seconds / 86400
  pub hour : m.hour ≡ seconds / 3600 % 24
  pub minute : m.minute ≡ seconds / 60 % 60
  pub second : m.second ≡ seconds % 60

pub moment_is : (seconds : ℕ) → seconds ≤ last_second → IsAfter seconds (moment_after seconds)
unfolding moment_after
moment_is seconds few =
    let day = seconds / 86400 in
    let known : day < 47482 = omega arith in
    let y = counted days_of_year 129 1970 day (omega (arith, known, all_years)) in
    let found = counted_off days_of_year 129 1970 day in
    let leap = is_leap_year found.0 in
    let m = counted (days_of_month leap) 11 1 found.1 (omega (arith, all_months leap, y.within)) in
    let in_month = counted_off (days_of_month leap) 11 1 found.1 in
    record {
      first_year = y.from;
      last_year = y.near;
      date = record {
        first_month = m.from;
        last_month = m.near;
        first_day = omega arith;
        last_day = omega (arith, m.within);
        hours = omega arith;
        minutes = omega arith;
        seconds = omega arith;
      };
      days = omega (arith, y.total, m.total);
      hour = refl;
      minute = refl;
      second = refl;
    }

-- it is a moment
pub moment_there : (seconds : ℕ) → seconds ≤ last_second → is_moment (moment_after seconds) ≡ true
unfolding is_moment
moment_there seconds few =
    let m = moment_after seconds in
    let p = moment_is seconds few in
    dated_from _ _ m.month m.day m.hour m.minute m.second (and_from _ _ (le-leb 1970 m.year p.first_year) (le-leb m.year 2099 p.last_year)) p.date

-- and so many seconds after the first one
pub moment_counted : (seconds : ℕ) → seconds ≤ last_second → seconds_to (moment_after seconds) ≡ seconds
unfolding seconds_to
moment_counted seconds few =
    let p = moment_is seconds few in
    rw (p.days, p.hour, p.minute, p.second) (omega arith)

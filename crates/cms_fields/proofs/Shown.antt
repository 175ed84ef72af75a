-- The calendar of moments is that of `jiff`: a clock that shows so many seconds shows the moment after them.
use Rattle.std.proofs.Common.{◌≡◌, ℕ, zero, suc, ◌+◌, ◌-◌, ◌*◌, ◌/◌, ◌%◌, ◌<◌, ◌≤◌, refl, sym, ◌∙◌, ap, subst, arith, ⊎_elim, ℤ, pos, ◌+ℤ◌, ◌-ℤ◌, ◌*ℤ◌}
use Rattle.std.proofs.lemmas.Bool.{cases_lt}
use Rattle.std.proofs.lemmas.Int.{by_lt_z}
use Rattle.jiff_core.specs.Calendar.{days_of_years, days_of_months, day_count, days_from_civil, IsYear, IsCivilDate}
use Rattle.jiff_core.specs.Date.{epoch_day}
use Rattle.jiff_core.specs.DateTime.{civil_nanos}
use Rattle.jiff_core.specs.Time.{time_nanos}
use Rattle.jiff_core.specs.declared.civil.datetime.DateTime.{DateTime}
use Rattle.jiff_core.proofs.CalendarLemmas.{day_count-lt_year, day_count-lt_month, day_count-day, days_from_civil-day_count, day_count-epoch, days_of_months-zero}
use Rattle.jiff_core.proofs.SignedLemmas.{signed_arith}
use Rattle.cms_fields.specs.Stamps.{days_of_month}
use Rattle.cms_fields.specs.Moments.{days_along, days_of_year, is_leap_year, moment_after, last_second, days_to, IsShown}
use Rattle.cms_fields.specs.declared.time.Moment.{Moment}
use Rattle.cms_fields.proofs.Calendar.{no_days, last_days, moment_is, IsAfter}

-- the days of years from one on
years_along : (before first k : ℕ) → before ≡ first + 10000 → days_of_years (before + k) ≡ days_of_years before + days_along days_of_year first k
unfolding days_of_years
years_along before first zero e =
    let none = no_days days_of_year first 0 refl in
    let same : days_of_years (before + 0) ≡ days_of_years before = ap days_of_years (omega arith) in
    omega (arith, none, same)
years_along before first (suc k) e =
    let next : before + suc k ≡ suc (before + k) = omega arith in
    let year : pos (before + k) -ℤ pos 10000 ≡ pos (first + k) = omega (arith, signed_arith) in
    let more : suc k ≡ k + 1 = omega arith in
    let rest = years_along before first k e in
    rw (next, year, rest, more, last_days days_of_year k first) (omega arith)

-- the days of the first months of a year
months_along : (year k : ℕ) → days_of_months (pos year) k ≡ days_along (days_of_month (is_leap_year year)) 1 k
unfolding days_of_months days_of_month
months_along year zero = sym (no_days (days_of_month (is_leap_year year)) 1 0 refl)
months_along year (suc k) =
    let more : suc k ≡ k + 1 = omega arith in
    let place : 1 + k ≡ suc k = omega arith in
    let last : days_along (days_of_month (is_leap_year year)) 1 (suc k) ≡ days_along (days_of_month (is_leap_year year)) 1 k + days_of_month (is_leap_year year) (suc k) =
    rw more (last_days (days_of_month (is_leap_year year)) k 1) ∙ ap (λ m. days_along (days_of_month (is_leap_year year)) 1 k + days_of_month (is_leap_year year) m) place in
    rw (months_along year k) (sym last)

-- dates of one year with the same count of days are the same
same_month : (y : ℤ) (m d : ℕ) (y₂ : ℤ) (m₂ d₂ : ℕ) → y ≡ y₂ → IsCivilDate y m d → IsCivilDate y₂ m₂ d₂ → day_count y m d ≡ day_count y₂ m₂ d₂
    → (y ≡ y₂) × (m ≡ m₂) × (d ≡ d₂)
same_month y m d y₂ m₂ d₂ year h h₂ same =
    let there : day_count y₂ m₂ d₂ ≡ day_count y m₂ d₂ = ap (λ z. day_count z m₂ d₂) (sym year) in
    let h₃ : IsCivilDate y m₂ d₂ = subst (λ z. IsCivilDate z m₂ d₂) (sym year) h₂ in
    ⊎_elim (λ (lt : m < m₂). absurd (omega (arith, same, there, day_count-lt_month y m d m₂ d₂ h h₂.2.0 lt)))
    (λ (le : m₂ ≤ m). ⊎_elim (λ (lt : m₂ < m). absurd (omega (arith, same, there, day_count-lt_month y m₂ d₂ m d h₃ h.2.0 lt)))
    (λ (ge : m ≤ m₂).
    let month : m ≡ m₂ = omega arith in
    let here : day_count y m₂ d₂ ≡ day_count y m d₂ = ap (λ k. day_count y k d₂) (sym month) in
    (year, month, omega (arith, same, there, here, day_count-day y m d d₂ h.2.0 h₂.2.0)))
    (cases_lt m₂ m)) (cases_lt m m₂)

-- dates with the same count of days are the same
same_date : (y : ℤ) (m d : ℕ) (y₂ : ℤ) (m₂ d₂ : ℕ) → IsCivilDate y m d → IsCivilDate y₂ m₂ d₂ → day_count y m d ≡ day_count y₂ m₂ d₂
    → (y ≡ y₂) × (m ≡ m₂) × (d ≡ d₂)
same_date y m d y₂ m₂ d₂ h h₂ same =
    by_lt_z y y₂ (λ lt. absurd (omega (arith, day_count-lt_year y m d y₂ m₂ d₂ h h₂.2.0 lt)))
    (λ le. by_lt_z y₂ y (λ lt. absurd (omega (arith, day_count-lt_year y₂ m₂ d₂ y m d h₂ h.2.0 lt)))
    (λ ge. let year : y ≡ y₂ = omega (arith, signed_arith) in same_month y m d y₂ m₂ d₂ year h h₂ same))

-- the count of a moment's days
counted_days : (m : Moment) → 1970 ≤ m.year → 1 ≤ m.month → 1 ≤ m.day → day_count (pos m.year) m.month m.day ≡ day_count (pos 1970) 1 1 + days_to m
unfolding day_count
counted_days m year month day =
    let years = years_along 11970 1970 (m.year - 1970) refl in
    let months = months_along m.year (m.month - 1) in
    let there : days_of_years (m.year + 10000) ≡ days_of_years (11970 + (m.year - 1970)) = ap days_of_years (omega arith) in
    omega (arith, years, months, there, days_of_months-zero (pos 1970))

-- seconds in days and what is left of the last, as a clock counts them
split : (day : ℤ) (rest seconds : ℕ) → rest < 86_400_000_000_000 → (day *ℤ pos 86_400_000_000_000 +ℤ pos rest) ≡ pos (seconds * 1_000_000_000)
    → (day ≡ pos (seconds / 86400)) × (rest ≡ seconds % 86400 * 1_000_000_000)
split day rest seconds few is =
    let whole : day ≡ pos (seconds / 86400) = omega (arith, signed_arith) in
    (whole, omega (arith, signed_arith))

-- the time of day that is so many seconds after midnight
time_is : (hour minute second fraction seconds : ℕ) → minute < 60 → second < 60 → fraction < 1_000_000_000
    → (hour * 3600 + minute * 60 + second) * 1_000_000_000 + fraction ≡ seconds % 86400 * 1_000_000_000
    → (hour ≡ seconds / 3600 % 24) × (minute ≡ seconds / 60 % 60) × (second ≡ seconds % 60)
time_is hour minute second fraction seconds m s f is =
    let all : hour * 3600 + minute * 60 + second ≡ seconds % 86400 = omega arith in
    (omega arith, omega arith, omega arith)

-- the date of a day number
date_is : (y : ℤ) (m d seconds : ℕ) (moment : Moment) → IsCivilDate y m d → days_from_civil y m d ≡ pos (seconds / 86400) → IsAfter seconds moment
    → (y ≡ pos moment.year) × (m ≡ moment.month) × (d ≡ moment.day)
unfolding days_of_month
date_is y m d seconds moment h is p =
    let days = counted_days moment p.first_year p.date.first_month p.date.first_day in
    let year : IsYear (pos moment.year) = (omega (arith, signed_arith, p.last_year), omega (arith, signed_arith, p.last_year)) in
    let civil : IsCivilDate (pos moment.year) moment.month moment.day =
    (year, (p.date.first_month, p.date.last_month), (p.date.first_day, p.date.last_day)) in
    let same : day_count y m d ≡ day_count (pos moment.year) moment.month moment.day =
    omega (arith, signed_arith, days, days_from_civil-day_count y m d, day_count-epoch, is, p.days) in
    same_date y m d (pos moment.year) moment.month moment.day h civil same

pub shown_is : (seconds : ℕ) (shown : DateTime) → seconds ≤ last_second
    → civil_nanos shown ≡ pos seconds *ℤ pos 1_000_000_000 → IsShown (moment_after seconds) shown
unfolding civil_nanos
shown_is seconds shown few is =
    let p = moment_is seconds few in
    let t = shown.time in
    let d = shown.date in
    let short : time_nanos t < 86_400_000_000_000 = omega (arith, t.hour_in, t.minute_in, t.second_in, t.subsec_in) in
    let parts = split (epoch_day d) (time_nanos t) seconds short is in
    let date = date_is d.year d.month d.day seconds (moment_after seconds) (d.year_in, d.month_in, d.day_in) parts.0 p in
    let time = time_is t.hour t.minute t.second t.subsec_nanosecond seconds t.minute_in t.second_in t.subsec_in parts.1 in
    (date.0, date.1, date.2, time.0 ∙ sym p.hour, time.1 ∙ sym p.minute, time.2 ∙ sym p.second)

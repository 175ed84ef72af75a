-- Dates of the years from 1900 to 2099.
use Rattle.std.proofs.Common.{◌≡◌, ℕ, ◌≤◌, ◌%◌, refl, sym, subst, arith, Bool, true, false, ⊎_elim}
use Rattle.std.specs.Prelude.{◌==◌, nat_le, ◌&&◌}
use Rattle.std.proofs.lemmas.Bool.{le-leb, leb-true, eqb-true, and_parts, and_from, cases_Bool}
use Rattle.cms_names.specs.Names.{is_between}
use Rattle.cms_fields.specs.Stamps.{is_stamp, days_of_month}
use Rattle.cms_fields.specs.Moments.{is_moment, is_leap_year, stamp_of}
use Rattle.cms_fields.specs.declared.time.Stamp.{Stamp}
use Rattle.cms_fields.specs.declared.time.Moment.{Moment}

-- the fields of a date and time that there is, in a leap year or not
pub record IsDated (is_leap : Bool) (month day hour minute second : ℕ) : Type 0 where
  pub first_month : 1 ≤ month
  pub last_month : month ≤ 12
  pub first_day : 1 ≤ day
  pub last_day : day ≤ days_of_month is_leap month
  pub hours : hour ≤ 23
  pub minutes : minute ≤ 59
  pub seconds : second ≤ 59

abbrev pub dated : Bool → Bool → ℕ → ℕ → ℕ → ℕ → ℕ → Bool
dated year is_leap month day hour minute second =
    year && is_between 1 12 month && is_between 1 (days_of_month is_leap month) day
    && nat_le hour 23 && nat_le minute 59 && nat_le second 59

dated_parts : (year is_leap : Bool) (month day hour minute second : ℕ) → dated year is_leap month day hour minute second ≡ true
    → (year ≡ true) × IsDated is_leap month day hour minute second
dated_parts year is_leap month day hour minute second is =
    let a = and_parts _ _ is in
    let b = and_parts _ _ a.0 in
    let c = and_parts _ _ b.0 in
    let d = and_parts _ _ c.0 in
    let e = and_parts _ _ d.0 in
    let m = and_parts _ _ e.1 in
    let n = and_parts _ _ d.1 in (
      e.0,
      record {
        first_month = leb-true 1 month m.0;
        last_month = leb-true month 12 m.1;
        first_day = leb-true 1 day n.0;
        last_day = leb-true day (days_of_month is_leap month) n.1;
        hours = leb-true hour 23 c.1;
        minutes = leb-true minute 59 b.1;
        seconds = leb-true second 59 a.1;
      },
    )

pub dated_from : (year is_leap : Bool) (month day hour minute second : ℕ) → year ≡ true → IsDated is_leap month day hour minute second
    → dated year is_leap month day hour minute second ≡ true
dated_from year is_leap month day hour minute second y d =
    and_from _ _ (and_from _ _ (and_from _ _ (and_from _ _ (and_from _ _ y
    (and_from _ _ (le-leb 1 month d.first_month) (le-leb month 12 d.last_month)))
    (and_from _ _ (le-leb 1 day d.first_day) (le-leb day (days_of_month is_leap month) d.last_day)))
    (le-leb hour 23 d.hours)) (le-leb minute 59 d.minutes)) (le-leb second 59 d.seconds)

-- no month has more than 31 days
days_few : (is_leap : Bool) (month : ℕ) → days_of_month is_leap month ≤ 31
unfolding days_of_month
days_few is_leap month = grind arith

-- a stamp's numbers but its year have two digits, and its year is of two centuries
pub record IsSmall (s : Stamp) : Type 0 where
  pub first_year : 1900 ≤ s.year
  pub last_year : s.year ≤ 2099
  pub month : s.month ≤ 99
  pub day : s.day ≤ 99
  pub hour : s.hour ≤ 99
  pub minute : s.minute ≤ 99
  pub second : s.second ≤ 99

pub stamp_small : (s : Stamp) → is_stamp s ≡ true → IsSmall s
unfolding is_stamp
stamp_small s is =
    let (year, d) = dated_parts _ _ s.month s.day s.hour s.minute s.second is in
    let few = days_few (s.year % 4 == 0) s.month in
    let y = and_parts _ _ year in
    record {
      first_year = leb-true 1900 s.year y.0;
      last_year = leb-true s.year 2099 y.1;
      month = omega (arith, d.last_month);
      day = omega (arith, d.last_day, few);
      hour = omega (arith, d.hours);
      minute = omega (arith, d.minutes);
      second = omega (arith, d.seconds);
    }

and_true : (b : Bool) → (b && true) ≡ b
and_true true = refl
and_true false = refl

-- from 1970 to 2099 each fourth year is a leap year
leap_years : (year : ℕ) → 1970 ≤ year → year ≤ 2099 → is_leap_year year ≡ (year % 4 == 0)
leap_years year low high = ⊎_elim
    (λ (century : (year % 100 == 0) ≡ true).
    let none : year % 100 ≡ 0 = eqb-true (year % 100) 0 century in
    let only : year ≡ 2000 = omega arith in
    subst (λ (y : ℕ). is_leap_year y ≡ (y % 4 == 0)) (sym only) refl)
    (λ (other : (year % 100 == 0) ≡ false).
    rw other (and_true (year % 4 == 0)))
    (cases_Bool (year % 100 == 0))

pub stamp_there : (m : Moment) → is_moment m ≡ true → is_stamp (stamp_of m) ≡ true
unfolding is_stamp is_moment stamp_of
stamp_there m is =
    let (years, d) = dated_parts _ _ m.month m.day m.hour m.minute m.second is in
    let y = and_parts _ _ years in
    let low = leb-true 1970 m.year y.0 in
    let high = leb-true m.year 2099 y.1 in
    let leap = leap_years m.year low high in
    dated_from _ _ m.month m.day m.hour m.minute m.second (and_from _ _ (le-leb 1900 m.year (omega arith)) (le-leb m.year 2099 high))
    (subst (λ l. IsDated l m.month m.day m.hour m.minute m.second) leap d)

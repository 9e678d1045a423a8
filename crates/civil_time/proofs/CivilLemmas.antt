-- Civil seconds and moments: each moment up to the last has one civil second.
use Rattle.std.proofs.Common.{◌≡◌, ℕ, suc, ◌+◌, ◌-◌, ◌*◌, ◌/◌, ◌%◌, ◌<◌, ◌≤◌, ◌∙◌, arith}
use Rattle.civil_time.specs.Periods.{Place, days_of_first}
use Rattle.civil_time.specs.Calendar.{year_days, month_days, days_of_years, days_to_date}
use Rattle.civil_time.specs.Civil.{Civil, IsCivil, moment_of}
use Rattle.civil_time.specs.TimeText.{year_place, month_place, civil_in_year, civil_at}
use Rattle.civil_time.proofs.PeriodLemmas.{IsPlace, place_of_right}
use Rattle.civil_time.proofs.CalendarLemmas.{IsDate, all_years, all_months, days_of_first-zero, days_to_date-lt, one_date}

-- the date of a civil second exists
date_of : (civil : Civil) → IsCivil civil → IsDate civil.year civil.month civil.day
date_of civil exists = record {
  first_year = exists.first_year;
  last_year = exists.last_year;
  first_month = exists.first_month;
  last_month = exists.last_month;
  first_day = exists.first_day;
  last_day = exists.last_day;
}

-- an existing civil second lies before the end of 9998
pub moment_of-le : (civil : Civil) → IsCivil civil → moment_of civil ≤ 253_370_764_799
moment_of-le civil exists =
    omega (arith, days_to_date-lt civil.year civil.month civil.day (date_of civil exists))

-- two civil seconds have the same date and time
pub record IsSame (civil other : Civil) : Type 0 where
  pub year : civil.year ≡ other.year
  pub month : civil.month ≡ other.month
  pub day : civil.day ≡ other.day
  pub hour : civil.hour ≡ other.hour
  pub minute : civil.minute ≡ other.minute
  pub second : civil.second ≡ other.second

-- at a moment stands one civil second
pub one_civil : (civil other : Civil) → IsCivil civil → IsCivil other →
    moment_of civil ≡ moment_of other → IsSame civil other
one_civil civil other exists other_exists same =
    let dates = one_date civil.year civil.month civil.day other.year other.month other.day
    (date_of civil exists) (date_of other other_exists) (omega arith) in
    record {
      year = dates.0;
      month = dates.1;
      day = dates.2;
      hour = omega arith;
      minute = omega arith;
      second = omega arith;
    }

-- a place in the months of a year gives a date that exists and lies there
place_gives_date : (years day : ℕ) (place : Place) → years ≤ 8028 →
    IsPlace (λ k. month_days (1970 + years) (suc k)) 11 0 day place →
    IsDate (1970 + years) (suc place.periods) (suc place.before)
    × (days_to_date (1970 + years) (suc place.periods) (suc place.before)
    ≡ days_of_years years + day)
place_gives_date years day place low found =
    let year_back : 1970 + years - 1970 ≡ years = omega arith in
    let month_back : suc place.periods - 1 ≡ place.periods = omega arith in
    let start = days_of_first-zero (λ k. month_days (1970 + years) (suc k)) in (
      record {
        first_year = omega arith;
        last_year = omega arith;
        first_month = omega arith;
        last_month = omega (arith, found.low);
        first_day = omega arith;
        last_day = omega (arith, found.within);
      },
      rw (year_back, month_back) (omega (arith, found.same, start)),
    )

-- a place in the years gives a civil second that exists, that many seconds after its midnight
place_gives_civil : (place : Place) (day second : ℕ) → second < 86_400 →
    IsPlace (λ k. year_days (1970 + k)) 8028 0 day place →
    IsCivil (civil_in_year place second)
    × (moment_of (civil_in_year place second) ≡ day * 86_400 + second)
place_gives_civil place day second inside found =
    let year = 1970 + place.periods in
    let start = days_of_first-zero (λ k. month_days year (suc k)) in
    let start_year = days_of_first-zero (λ k. year_days (1970 + k)) in
    let ahead :
    days_of_first (λ k. month_days year (suc k)) 0 + place.before
    < days_of_first (λ k. month_days year (suc k)) 12 =
    omega (arith, found.within, all_months year, start) in
    let months = place_of_right (λ k. month_days year (suc k)) 11 0 place.before ahead in
    let dates = place_gives_date place.periods place.before (month_place year place.before)
    found.low months in
    let date = dates.0 in (
      record {
        first_year = date.first_year;
        last_year = date.last_year;
        first_month = date.first_month;
        last_month = date.last_month;
        first_day = date.first_day;
        last_day = date.last_day;
        hour = omega arith;
        minute = omega arith;
        second = omega arith;
      },
      omega (arith, dates.1, found.same, start_year),
    )

-- the civil second at a moment exists, and lies there
pub civil_at_right : (moment : ℕ) → moment ≤ 253_370_764_799 →
    IsCivil (civil_at moment) × (moment_of (civil_at moment) ≡ moment)
unfolding civil_at
civil_at_right moment low =
    let day = moment / 86_400 in
    let start = days_of_first-zero (λ k. year_days (1970 + k)) in
    let ahead :
    days_of_first (λ k. year_days (1970 + k)) 0 + day
    < days_of_first (λ k. year_days (1970 + k)) 8029 =
    omega (arith, all_years, start) in
    let found = place_of_right (λ k. year_days (1970 + k)) 8028 0 day ahead in
    let here = place_gives_civil (year_place day) day (moment % 86_400) (omega arith) found in
    (here.0, here.1 ∙ omega arith)

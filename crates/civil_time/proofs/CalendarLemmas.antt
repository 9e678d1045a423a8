-- Years and months: how many days they have, and the one date of a day.
use Rattle.std.proofs.Common.{◌≡◌, ℕ, suc, ◌+◌, ◌-◌, ◌<◌, ◌≤◌, inl, inr, refl, arith}
use Rattle.std.proofs.lemmas.Bool.{cases_Bool}
use Rattle.civil_time.specs.Periods.{days_of_first}
use Rattle.civil_time.specs.Calendar.{is_leap_year, year_days, month_days, days_of_years, days_of_months, days_to_date}
use Rattle.civil_time.proofs.PeriodLemmas.{before_later, one_place}

-- no days lie before the first period
pub days_of_first-zero : (days : ℕ → ℕ) → days_of_first days 0 ≡ 0
unfolding days_of_first
days_of_first-zero days = refl

-- the years from 1970 to 9998 have 2,932,532 days
pub all_years : days_of_years 8029 ≡ 2_932_532
unfolding days_of_first
all_years = refl

-- the twelve months of a year have its days
pub all_months : (year : ℕ) → days_of_months year 12 ≡ year_days year
unfolding days_of_first
all_months year =
    elim (cases_Bool (is_leap_year year)) [ inl leap ↦ rw leap refl | inr common ↦ rw common refl ]

-- The date exists, from 1970 to 9998.
pub record IsDate (year month day : ℕ) : Type 0 where
  pub first_year : 1970 ≤ year
  pub last_year : year ≤ 9998
  pub first_month : 1 ≤ month
  pub last_month : month ≤ 12
  pub first_day : 1 ≤ day
  pub last_day : day ≤ month_days year month

-- a date lies in its year
pub before_next_year : (year month day : ℕ) → IsDate year month day →
    days_of_months year (month - 1) + (day - 1) < year_days (1970 + (year - 1970))
before_next_year year month day date =
    let here : 1970 + (year - 1970) ≡ year = omega arith in
    let own : suc (month - 1) ≡ month = omega arith in
    let within : day - 1 < month_days year (suc (month - 1)) = rw own (omega arith) in
    let before_end = before_later (λ k. month_days year (suc k)) (month - 1) 12 (day - 1) within
    (omega arith) in
    rw here (omega (arith, all_months year, before_end))

-- a date lies before the end of 9998
pub days_to_date-lt : (year month day : ℕ) → IsDate year month day →
    days_to_date year month day < 2_932_532
days_to_date-lt year month day date =
    let before_end = before_later (λ k. year_days (1970 + k)) (year - 1970) 8029
    (days_of_months year (month - 1) + (day - 1)) (before_next_year year month day date)
    (omega arith) in
    omega (arith, all_years, before_end)

-- a day is of one year, and has one place in it
one_year : (year month day other_year other_month other_day : ℕ) →
    IsDate year month day → IsDate other_year other_month other_day →
    days_to_date year month day ≡ days_to_date other_year other_month other_day →
    (year ≡ other_year)
    × (days_of_months year (month - 1) + (day - 1)
    ≡ days_of_months other_year (other_month - 1) + (other_day - 1))
one_year year month day other_year other_month other_day date other same =
    let places = one_place (λ k. year_days (1970 + k)) (year - 1970) (other_year - 1970)
    (days_of_months year (month - 1) + (day - 1))
    (days_of_months other_year (other_month - 1) + (other_day - 1))
    (before_next_year year month day date)
    (before_next_year other_year other_month other_day other)
    (omega arith) in
    (omega (arith, places.0), places.1)

-- in a year it is of one month
one_month : (year month day other_month other_day : ℕ) →
    IsDate year month day → IsDate year other_month other_day →
    days_of_months year (month - 1) + (day - 1)
    ≡ days_of_months year (other_month - 1) + (other_day - 1) →
    (month ≡ other_month) × (day ≡ other_day)
one_month year month day other_month other_day date other same =
    let own : suc (month - 1) ≡ month = omega arith in
    let other_own : suc (other_month - 1) ≡ other_month = omega arith in
    let within : day - 1 < month_days year (suc (month - 1)) = rw own (omega arith) in
    let other_within : other_day - 1 < month_days year (suc (other_month - 1)) =
    rw other_own (omega arith) in
    let places = one_place (λ k. month_days year (suc k)) (month - 1) (other_month - 1)
    (day - 1) (other_day - 1) within other_within same in
    (omega (arith, places.0), omega (arith, places.1))

-- a day has one date
pub one_date : (year month day other_year other_month other_day : ℕ) →
    IsDate year month day → IsDate other_year other_month other_day →
    days_to_date year month day ≡ days_to_date other_year other_month other_day →
    (year ≡ other_year) × (month ≡ other_month) × (day ≡ other_day)
one_date year month day other_year other_month other_day date other same =
    let years = one_year year month day other_year other_month other_day date other same in
    let there = rw (← years.0) at other in
    let months = one_month year month day other_month other_day date there
    (rw (← years.0) at years.1) in
    (years.0, months.0, months.1)

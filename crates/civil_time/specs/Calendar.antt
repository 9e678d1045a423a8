-- The proleptic Gregorian calendar (ISO 8601) in whole days.
use Rattle.std.specs.Prelude.{ℕ, suc, ◌+◌, ◌-◌, ◌%◌, Bool, not, ◌&&◌, ◌||◌, ◌==◌, if◌then◌else◌}
use Rattle.civil_time.specs.Periods.{days_of_first}

-- every fourth year is a leap year, but of the centuries only every fourth
abbrev pub is_leap_year : ℕ → Bool
is_leap_year year = (year % 4 == 0) && (not (year % 100 == 0) || (year % 400 == 0))

-- a year has 365 days, and a leap year 366
abbrev pub year_days : ℕ → ℕ
year_days year = if is_leap_year year then 366 else 365

-- April, June, September and November have 30 days, February has 28 or in a leap year 29, and each
-- other month has 31
abbrev pub month_days : ℕ → ℕ → ℕ
month_days year month =
    if month == 2 then (if is_leap_year year then 29 else 28)
    else (if (month == 4) || (month == 6) || (month == 9) || (month == 11) then 30 else 31)

-- the days of the first so many years from 1970 on
abbrev pub days_of_years : ℕ → ℕ
days_of_years n = days_of_first (λ k. year_days (1970 + k)) n

-- the days of the first so many months of the year
abbrev pub days_of_months : ℕ → ℕ → ℕ
days_of_months year n = days_of_first (λ k. month_days year (suc k)) n

-- the days from 1970-01-01 to a date: the whole years, the whole months, and the days of the month
abbrev pub days_to_date : ℕ → ℕ → ℕ → ℕ
days_to_date year month day =
    days_of_years (year - 1970) + days_of_months year (month - 1) + (day - 1)

-- Civil seconds in UTC: a date with a time of day (RFC 3339, section 5.6, with `Z` and no fraction
-- of a second), in the years 1970 to 9998, with no leap seconds.
use Rattle.std.specs.Prelude.{ℕ, ◌+◌, ◌*◌, ◌/◌, ◌%◌, ◌<◌, ◌≤◌, List, [], ◌∷◌, ◌++◌}
use Rattle.civil_time.specs.Calendar.{days_to_date, month_days}
use Rattle.civil_time.specs.declared.years.TheConstants.{FIRST_YEAR, LAST_YEAR}

-- a date and a time of day
pub record Civil : Type 0 where
  pub year : ℕ
  pub month : ℕ
  pub day : ℕ
  pub hour : ℕ
  pub minute : ℕ
  pub second : ℕ

-- it exists: the calendar has the date, and a clock shows the time
abbrev pub IsCivil : Civil → Type 0
IsCivil civil = record {
  first_year : FIRST_YEAR ≤ civil.year;
  last_year : civil.year ≤ LAST_YEAR;
  first_month : 1 ≤ civil.month;
  last_month : civil.month ≤ 12;
  first_day : 1 ≤ civil.day;
  last_day : civil.day ≤ month_days civil.year civil.month;
  hour : civil.hour < 24;
  minute : civil.minute < 60;
  second : civil.second < 60;
}

-- the seconds from 1970-01-01T00:00:00Z to it
abbrev pub moment_of : Civil → ℕ
moment_of civil =
    days_to_date civil.year civil.month civil.day * 86_400 + civil.hour * 3600 + civil.minute * 60
    + civil.second

-- the code of a decimal digit
abbrev pub digit : ℕ → ℕ
digit n = 48 + n

-- a number below 100 in two digits
abbrev pub two_digits : ℕ → List ℕ
two_digits n = digit (n / 10) ∷ digit (n % 10) ∷ []

-- a number below 10,000 in four digits
abbrev pub four_digits : ℕ → List ℕ
four_digits n = digit (n / 1000) ∷ digit (n / 100 % 10) ∷ digit (n / 10 % 10) ∷ digit (n % 10) ∷ []

-- its text: `YYYY-MM-DD`, `T`, `HH:MM:SS` and `Z`
abbrev pub civil_text : Civil → List ℕ
civil_text civil =
    four_digits civil.year ++ 45 ∷ [] ++ two_digits civil.month ++ 45 ∷ [] ++ two_digits civil.day
    ++ 84 ∷ [] ++ two_digits civil.hour ++ 58 ∷ [] ++ two_digits civil.minute ++ 58 ∷ []
    ++ two_digits civil.second ++ 90 ∷ []

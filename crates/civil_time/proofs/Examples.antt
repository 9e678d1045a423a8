-- The definitions at worked moments.
use Rattle.std.proofs.Common.{◌≡◌, true, false, [], ◌∷◌, map, refl, arith, codes}
use Rattle.civil_time.specs.Periods.{days_of_first, place_of}
use Rattle.civil_time.specs.Calendar.{is_leap_year, days_of_years}
use Rattle.civil_time.specs.Civil.{Civil, IsCivil, moment_of}
use Rattle.civil_time.specs.TimeText.{civil_at, time_text}

-- of the centuries only every fourth has a leap year
leap_years : map is_leap_year (1900 ∷ 1999 ∷ 2000 ∷ 2023 ∷ 2024 ∷ 2100 ∷ []) ≡ false ∷ false ∷ true
    ∷ false ∷ true ∷ false ∷ []
leap_years = refl

-- four hundred years have 146,097 days
four_centuries : days_of_years 400 ≡ 146_097
unfolding days_of_first
four_centuries = refl

-- 2023 has no 29 February
no_leap_day : IsCivil (record {
  year = 2023;
  month = 2;
  day = 29;
  hour = 0;
  minute = 0;
  second = 0;
}) → ⊥
no_leap_day exists = omega (arith, exists.last_day)

-- there are no leap seconds
no_leap_second : IsCivil (record {
  year = 2016;
  month = 12;
  day = 31;
  hour = 23;
  minute = 59;
  second = 60;
}) → ⊥
no_leap_second exists = omega (arith, exists.second)

-- the first moment
first_text : time_text 0 ≡ codes "1970-01-01T00:00:00Z"
unfolding time_text civil_at place_of
first_text = refl

-- a moment of an ordinary year
ordinary_text : time_text 1_700_000_000 ≡ codes "2023-11-14T22:13:20Z"
unfolding time_text civil_at place_of
ordinary_text = refl

-- the year 2000 has a 29 February
leap_text : time_text 951_782_400 ≡ codes "2000-02-29T00:00:00Z"
unfolding time_text civil_at place_of
leap_text = refl

-- the last moment
last_text : time_text 253_370_764_799 ≡ codes "9998-12-31T23:59:59Z"
unfolding time_text civil_at place_of
last_text = refl

-- the last civil second
last_civil : Civil
last_civil = record {
  year = 9998;
  month = 12;
  day = 31;
  hour = 23;
  minute = 59;
  second = 59;
}

-- it lies at the last moment
last_moment : moment_of last_civil ≡ 253_370_764_799
unfolding days_of_first last_civil
last_moment = refl

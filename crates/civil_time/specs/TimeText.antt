-- The text of a moment, which counts the seconds since 1970-01-01T00:00:00Z.
use Rattle.std.specs.Prelude.{◌≡◌, ℕ, suc, ◌+◌, ◌/◌, ◌%◌, List}
use Rattle.civil_time.specs.Periods.{Place, place_of}
use Rattle.civil_time.specs.Calendar.{year_days, month_days}
use Rattle.civil_time.specs.Civil.{Civil, IsCivil, moment_of, civil_text}

-- the place of a day in its year, where the day is counted from 1970-01-01: of the 8,029 years from
-- 1970 to 9998 at most 8,028 lie before it
abbrev pub year_place : ℕ → Place
year_place day = place_of (λ k. year_days (1970 + k)) 8028 0 day

-- the place of a day in its month, where the day is counted from the first of its year
abbrev pub month_place : ℕ → ℕ → Place
month_place year day = place_of (λ k. month_days year (suc k)) 11 0 day

-- The civil second on a day with this place in its year, so many seconds after midnight. Months and
-- days are counted from 1.
abbrev pub civil_in_year : Place → ℕ → Civil
civil_in_year place second =
    let year = 1970 + place.periods in
    let month = month_place year place.before in
    record {
      year = year;
      month = suc month.periods;
      day = suc month.before;
      hour = second / 3600;
      minute = second / 60 % 60;
      second = second % 60;
    }

-- the civil second at a moment
unfoldable pub civil_at : ℕ → Civil
civil_at moment = civil_in_year (year_place (moment / 86_400)) (moment % 86_400)

-- the text of a moment
unfoldable pub time_text : ℕ → List ℕ
time_text moment = civil_text (civil_at moment)

-- the text is that of the moment: some existing civil second has the one and lies at the other
abbrev pub IsTimeText : List ℕ → ℕ → Type 0
IsTimeText text moment =
    (civil : Civil) × IsCivil civil × (text ≡ civil_text civil) × (moment ≡ moment_of civil)

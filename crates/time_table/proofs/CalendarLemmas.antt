-- The calendar of `jiff` and that of the definitions number the days alike from 1970 on.
use Rattle.std.proofs.Common.{◌≡◌, ℕ, zero, suc, ◌+◌, ◌-◌, ◌≤◌, refl, arith, ℤ, pos, ◌+ℤ◌}
use Rattle.jiff_core.specs.Calendar as Jiff
use Rattle.jiff_core.proofs.SignedLemmas.{signed_arith}
use Rattle.jiff_core.proofs.CalendarLemmas.{day_count-epoch, day_count-next_year, day_count-day_of_year, days_from_civil-day_count, days_of_months-zero}
use Rattle.civil_time.specs.Calendar.{year_days, month_days, days_of_years, days_of_months, days_to_date}
use Rattle.civil_time.proofs.PeriodLemmas.{days_of_first-suc}
use Rattle.civil_time.proofs.CalendarLemmas.{days_of_first-zero}

-- one month more has its days more
days_of_months-next : (year : ℤ) (n : ℕ) →
    Jiff.days_of_months year (suc n) ≡ Jiff.days_of_months year n + Jiff.days_in_month year (suc n)
unfolding Jiff.days_of_months
days_of_months-next year n = refl

-- the months of a year are as long
months_agree : (year n : ℕ) → Jiff.days_of_months (pos year) n ≡ days_of_months year n
months_agree year zero =
    omega (arith, days_of_months-zero (pos year), days_of_first-zero (λ k. month_days year (suc k)))
months_agree year (suc n) =
    let next = days_of_first-suc (λ k. month_days year (suc k)) n in
    omega (arith, months_agree year n, days_of_months-next (pos year) n, next)

-- the years from 1970 on are as long
years_agree : (n : ℕ) →
    Jiff.day_count (pos (1970 + n)) 1 1 ≡ Jiff.day_count (pos 1970) 1 1 + days_of_years n
years_agree zero = omega (arith, days_of_first-zero (λ k. year_days (1970 + k)))
years_agree (suc n) =
    let next : pos (1970 + suc n) ≡ pos (1970 + n) +ℤ pos 1 = omega (arith, signed_arith) in
    omega (
      arith,
      years_agree n,
      days_of_first-suc (λ k. year_days (1970 + k)) n,
      day_count-next_year (pos (1970 + n)) (pos (1970 + suc n)) (omega (arith, signed_arith)) next,
    )

-- a date from 1970 on has the same number of days before it
pub days_agree : (year month day : ℕ) → 1970 ≤ year → 1 ≤ month → 1 ≤ day →
    Jiff.days_from_civil (pos year) month day ≡ pos (days_to_date year month day)
days_agree year month day late first from =
    let back : 1970 + (year - 1970) ≡ year = omega arith in
    let years = rw back at (years_agree (year - 1970)) in
    omega (
      arith,
      signed_arith,
      years,
      day_count-epoch,
      months_agree year (month - 1),
      day_count-day_of_year (pos year) month day from,
      days_from_civil-day_count (pos year) month day,
    )

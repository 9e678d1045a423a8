-- Periods that follow one another, each with its number of days: the years from one on, or the
-- months of a year.
use Rattle.std.specs.Prelude.{ℕ, zero, suc, ◌+◌, ◌-◌, true, false, nat_lt}

-- the days of the first so many periods, where `days` gives those of each
unfoldable pub days_of_first : (ℕ → ℕ) → ℕ → ℕ
days_of_first days zero = 0
days_of_first days (suc n) = days_of_first days n + days n

-- a day of a period: how many periods lie before it, and how many days of its own period
pub record Place : Type 0 where
  pub periods : ℕ
  pub before : ℕ

-- The place of the day that lies so many days after the first of the period `from`: whole periods
-- are passed while they end before it, at most `more` of them.
unfoldable pub place_of : (ℕ → ℕ) → ℕ → ℕ → ℕ → Place
place_of days zero from day = record { periods = from; before = day }
place_of days (suc more) from day =
    elim (nat_lt day (days from)) [
      | true ↦ record { periods = from; before = day }
      | false ↦ place_of days more (suc from) (day - days from)
    ]

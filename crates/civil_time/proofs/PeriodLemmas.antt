-- Days in periods that follow one another: each day has one place.
use Rattle.std.proofs.Common.{◌≡◌, ℕ, zero, suc, ◌+◌, ◌-◌, ◌<◌, ◌≤◌, inl, inr, true, false, nat_lt, refl, ap, arith}
use Rattle.std.proofs.lemmas.Bool.{cases_order, cases_lt, lt-ltb, le-ltb}
use Rattle.civil_time.specs.Periods.{Place, days_of_first, place_of}

-- one period more has its days more
pub days_of_first-suc : (days : ℕ → ℕ) (n : ℕ) →
    days_of_first days (suc n) ≡ days_of_first days n + days n
unfolding days_of_first
days_of_first-suc days n = refl

-- later periods begin no earlier
days_of_first-add : (days : ℕ → ℕ) (n k : ℕ) → days_of_first days n ≤ days_of_first days (k + n)
days_of_first-add days n zero = let same : 0 + n ≡ n = omega arith in rw same (omega arith)
days_of_first-add days n (suc k) =
    let next : suc k + n ≡ suc (k + n) = omega arith in
    rw next (omega (arith, days_of_first-add days n k, days_of_first-suc days (k + n)))

-- a day of a period lies before each later period
pub before_later : (days : ℕ → ℕ) (n m day : ℕ) → day < days n → n < m →
    days_of_first days n + day < days_of_first days m
before_later days n m day within later =
    let same : (m - suc n) + suc n ≡ m = omega arith in
    omega (arith, days_of_first-suc days n, rw same at (days_of_first-add days (suc n) (m - suc n)))

-- a day has one place
pub one_place : (days : ℕ → ℕ) (n m day other : ℕ) → day < days n → other < days m →
    days_of_first days n + day ≡ days_of_first days m + other → (n ≡ m) × (day ≡ other)
one_place days n m day other within inside same =
    elim (cases_order n m) [
      | inl alike ↦ (alike, omega (arith, ap (days_of_first days) alike))
      | inr (inl less) ↦ absurd (omega (arith, before_later days n m day within less))
      | inr (inr more) ↦ absurd (omega (arith, before_later days m n other inside more))
    ]

-- the place is that of the day that lies `day` days after the first of the period `from`
pub record IsPlace (days : ℕ → ℕ) (last from day : ℕ) (place : Place) : Type 0 where
  pub within : place.before < days place.periods
  pub low : place.periods ≤ last
  pub same : days_of_first days place.periods + place.before ≡ days_of_first days from + day

-- where the day lies in the period, the place is there
place_of-here : (days : ℕ → ℕ) (more from day : ℕ) → day < days from →
    place_of days (suc more) from day ≡ record { periods = from; before = day }
unfolding place_of
place_of-here days more from day within =
    let here : nat_lt day (days from) ≡ true = lt-ltb day (days from) within in
    rw (here, place_of) refl

-- where the period ends before the day, the place is that of the day in the next ones
place_of-past : (days : ℕ → ℕ) (more from day : ℕ) → days from ≤ day →
    place_of days (suc more) from day ≡ place_of days more (suc from) (day - days from)
unfolding place_of
place_of-past days more from day past =
    let behind : nat_lt day (days from) ≡ false = le-ltb day (days from) past in
    rw (behind, place_of) refl

-- no period is passed but the given one, where there are none after it
place_of_last : (days : ℕ → ℕ) (from day : ℕ) →
    days_of_first days from + day < days_of_first days (suc from) →
    IsPlace days (0 + from) from day (place_of days zero from day)
unfolding place_of
place_of_last days from day inside = record {
  within = omega (arith, days_of_first-suc days from);
  low = omega arith;
  same = refl;
}

-- a day before the end of these periods has a place in them
pub place_of_right : (days : ℕ → ℕ) (more from day : ℕ) →
    days_of_first days from + day < days_of_first days (suc (more + from)) →
    IsPlace days (more + from) from day (place_of days more from day)
place_of_right days zero from day inside =
    let none : 0 + from ≡ from = omega arith in
    place_of_last days from day (rw none at inside)
place_of_right days (suc more) from day inside =
    elim (cases_lt day (days from)) [
      | inl within ↦ rw (place_of-here days more from day within) (record {
        within = within;
        low = omega arith;
        same = refl;
      })
      | inr past ↦
          let next : suc more + from ≡ more + suc from = omega arith in
          let inside_next :
          days_of_first days from + day < days_of_first days (suc (more + suc from)) =
          rw next at inside in
          let ahead :
          days_of_first days (suc from) + (day - days from)
          < days_of_first days (suc (more + suc from)) =
          omega (arith, days_of_first-suc days from) in
          let found = place_of_right days more (suc from) (day - days from) ahead in
          rw (place_of-past days more from day past, next) (record {
            within = found.within;
            low = found.low;
            same = omega (arith, days_of_first-suc days from, found.same);
          })
    ]

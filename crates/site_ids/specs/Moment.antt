-- The range of the moments.
use Rattle.std.specs.Prelude.{ℕ, ◌≤◌}
use Rattle.site_ids.specs.declared.moment.TheConstants.{LAST_MOMENT}

-- a moment is from 0 to 253,370,764,799
abbrev pub IsMoment : ℕ → Type 0
IsMoment n = n ≤ LAST_MOMENT

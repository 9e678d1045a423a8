-- A place that is counted from another place.
use Rattle.std.specs.Prelude.{ℕ, ◌+◌, Option, Some, None}

-- a place counted from the front, where it was counted from there
abbrev pub counted_from : ℕ → Option ℕ → Option ℕ
counted_from from None = None
counted_from from (Some n) = Some (from + n)

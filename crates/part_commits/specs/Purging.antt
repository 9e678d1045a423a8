-- The revisions that a purge keeps, as numbers.
use Rattle.std.specs.Prelude.{ℕ, Option, Some, None}

-- the number of a revision, or 0 for none
abbrev pub number_of : Option ℕ → ℕ
number_of None = 0
number_of (Some id) = id

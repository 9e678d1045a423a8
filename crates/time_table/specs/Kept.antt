-- How a time table is kept: the moments by page, and the pairs in their order.
use Rattle.std.specs.Prelude.{◌≡◌, ℕ, Bool, nat_eq, if◌then◌else◌, List, [], ◌∷◌, suc}
use Rattle.std.specs.Map.{lookup}
use Rattle.time_table.specs.Table.{moment_in, IsTable}

-- The moments by page are those of the pairs.
pub record IsKept (moments : List (ℕ × ℕ)) (order : List (ℕ × ℕ)) : Type 0 where
  pub found : (page : ℕ) → lookup (nat_eq page) moments ≡ moment_in order page
  pub table : IsTable order

-- how many pairs at the front pass the test
abbrev pub leading : (ℕ × ℕ → Bool) → List (ℕ × ℕ) → ℕ
leading test [] = 0
leading test (entry ∷ entries) = if test entry then suc (leading test entries) else 0

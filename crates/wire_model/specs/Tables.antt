-- Tables of values by their texts.
use Rattle.std.specs.Prelude.{ℕ, List, [], ◌∷◌, Option, Some, None, bytes_eq, if◌then◌else◌}

-- the value of the first row with this text, if there is one
abbrev pub named : {A : Type 0} → List (List ℕ × A) → List ℕ → Option A
named [] text = None
named (row ∷ table) text = if bytes_eq text row.0 then Some row.1 else named table text

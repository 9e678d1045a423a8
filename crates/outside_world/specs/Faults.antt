-- Counts of faults: numbers of 64 bits that never fall, and that stand still at their type's end.
use Rattle.std.specs.Prelude.{ℕ, ◌+◌, ◌-◌, ◌^◌, ◌<◌, ◌≤◌, ◌⊎◌, nat_lt, if◌then◌else◌}

-- the greatest count, at which a count stands still
abbrev pub last_count : ℕ
last_count = 2 ^ 64 - 1

-- one more, or the same at the greatest count
abbrev pub raised : ℕ → ℕ
raised count = if nat_lt count last_count then count + 1 else count

-- the count rose, or stood at its end before and after
abbrev pub Rose : ℕ → ℕ → Type 0
Rose before after = (before < after) ⊎ ((last_count ≤ before) × (last_count ≤ after))

-- Counts of faults: numbers of 64 bits that never fall, and that stand still at their type's end.
use Rattle.std.specs.Prelude.{ℕ, ◌≡◌, ◌+◌, ◌-◌, ◌^◌, ◌<◌, ◌≤◌, ◌⊎◌, nat_lt, if◌then◌else◌, Result, OnOk, OnErr}
use Rattle.disk_model.specs.declared.fault.DiskFailed.{DiskFailed}

-- the greatest count, at which a count stands still
abbrev pub last_count : ℕ
last_count = 2 ^ 64 - 1

-- one more, or the same at the greatest count
abbrev pub raised : ℕ → ℕ
raised count = if nat_lt count last_count then count + 1 else count

-- the count rose, or stood at its end before and after
abbrev pub Rose : ℕ → ℕ → Type 0
Rose before after = (before < after) ⊎ ((last_count ≤ before) × (last_count ≤ after))

-- A call that fails raises the count, and another leaves it as it was.
pub record CountsFault {T : Type 0} (before after : ℕ) (result : Result T DiskFailed) : Type 0
  where
    pub later : before ≤ after
    pub same : OnOk result (after ≡ before)
    pub rose : OnErr result (Rose before after)

-- The calls of a disk in memory: which of them fail, how many were made, how often one failed.
use Rattle.std.specs.Prelude.{ℕ, ◌+◌, ◌≤◌, ◌⊎◌, List, Contains}
use Rattle.disk_model.specs.Faults.{raised}

-- the numbers of the calls that fail, from 1; the greatest number of a call that does not; the
-- number of calls made; and the count of faults
pub record CallCount : Type 0 where
  pub fails : List ℕ
  pub most : ℕ
  pub made : ℕ
  pub faults : ℕ

-- no call was made, and these are to fail
abbrev pub fresh_count : List ℕ → ℕ → CallCount
fresh_count fails most = record { fails = fails; most = most; made = 0; faults = 0 }

-- the next call is one of those that fail
abbrev pub FailsNext : CallCount → Type 0
FailsNext calls = (calls.most ≤ calls.made) ⊎ Contains calls.fails (calls.made + 1)

-- after one call more
abbrev pub counted : CallCount → CallCount
counted calls = record calls { made = raised calls.made }

-- after one call more, which failed
abbrev pub failed : CallCount → CallCount
failed calls = record calls { made = raised calls.made; faults = raised calls.faults }

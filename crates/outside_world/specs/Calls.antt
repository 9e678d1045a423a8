-- The calls of an object in memory: which of them fail, how many were made, how often it failed.
use Rattle.std.specs.Prelude.{ℕ, List, Contains}
use Rattle.outside_world.specs.Faults.{raised}

-- the numbers of the calls that fail, from 1, the number of calls made, and the count of faults
pub record Calls : Type 0 where
  pub fails : List ℕ
  pub made : ℕ
  pub faults : ℕ

-- no call was made, and these are to fail
abbrev pub fresh_calls : List ℕ → Calls
fresh_calls fails = record { fails = fails; made = 0; faults = 0 }

-- the next call is one of those that fail
abbrev pub FailsNext : Calls → Type 0
FailsNext calls = Contains calls.fails (raised calls.made)

-- after one more call
abbrev pub counted : Calls → Calls
counted calls = record calls { made = raised calls.made }

-- after one more call, which failed
abbrev pub failed : Calls → Calls
failed calls = record calls { made = raised calls.made; faults = raised calls.faults }

-- What a record in memory stands for.
use Rattle.std.specs.Prelude.{ℕ, ◌≡◌, ◌-◌, List, [], ◌∷◌, ◌++◌, length, take, drop}
use Rattle.journal.specs.Form.{record_of, Fits}

-- the payload: what stands between four bytes and the last one
abbrev pub payload_in : List ℕ → List ℕ
payload_in bytes = take (length bytes - 5) (drop 4 bytes)

-- these bytes are a record and a closed gate
pub record IsRecord (bytes : List ℕ) : Type 0 where
  pub is : bytes ≡ record_of (payload_in bytes) ++ 0 ∷ []
  pub fits : Fits (payload_in bytes)

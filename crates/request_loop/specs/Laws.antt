-- The law of a connection's ends, proved in src/laws.rt.
use Rattle.std.specs.Prelude.{◌≡◌, ℕ, List}
use Rattle.wire_model.specs.Transcript.{Told}
use Rattle.request_loop.specs.declared.connection_end.ConnectionEnd.{ConnectionEnd}
use Rattle.request_loop.specs.Ending.{IsEnd}

-- the bytes that are left after a transcript give one end
abbrev pub OneEnd : Type 0
OneEnd = (limit : ℕ) (told : List Told) (rest : List ℕ) (end other : ConnectionEnd) →
    IsEnd limit told rest end → IsEnd limit told rest other → end ≡ other

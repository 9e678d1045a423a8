-- What clauses see of the sources and sinks in memory.
use Rattle.std.specs.Prelude.{ℕ, List, length, drop, slice_index, nat_lt, if◌then◌else◌}
use Rattle.outside_world.specs.Calls.{Calls}

-- a source in memory: the bytes that are left, and its calls
pub record Feed : Type 0 where
  pub left : List ℕ
  pub calls : Calls

-- a source in memory that gives pieces: the most bytes that the calls to come give, and the source
pub record PiecedFeed : Type 0 where
  pub pieces : List ℕ
  pub feed : Feed

-- the most bytes that the next call gives
abbrev pub next_piece : PiecedFeed → ℕ
next_piece pieced = slice_index pieced.pieces 0

-- the lengths after one more call: the last one holds again
abbrev pub next_pieces : List ℕ → List ℕ
next_pieces pieces = if nat_lt 1 (length pieces) then drop 1 pieces else pieces

-- a sink in memory: the bytes that it took, and its calls
pub record Kept : Type 0 where
  pub bytes : List ℕ
  pub calls : Calls

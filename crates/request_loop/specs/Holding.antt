-- Bytes that stand in a room from one place to another.
use Rattle.std.specs.Prelude.{ℕ, ◌-◌, List, take, drop}

-- the bytes from one place to another
abbrev pub held_in : List ℕ → ℕ → ℕ → List ℕ
held_in room from to = take (to - from) (drop from room)

-- What stands at a gate, by the first bytes there and the number of bytes up to the file's end.
use Rattle.std.specs.Prelude.{ℕ, ◌≡◌, ◌≢◌, ◌⊎◌, ◌+◌, ◌<◌, ◌≤◌, ◌^◌, List, ◌∷◌, slice_index, take, drop}
use Rattle.std.specs.Int.{w32, from_be_bytes, to_be_bytes}
use Rattle.journal.specs.declared.head.Head.{Head}
use Rattle.journal.specs.declared.head.Head.TheVariants.{Closed, Short, Open}

-- the number in the four bytes after the gate
abbrev pub count_in : List ℕ → ℕ
count_in bytes = from_be_bytes w32 (take 4 (drop 1 bytes))

-- the head says what stands there
abbrev pub IsHead : Head → List ℕ → ℕ → Type 0
IsHead Closed bytes left = slice_index bytes 0 ≢ 1
IsHead Short bytes left =
    (slice_index bytes 0 ≡ 1) × ((left < 6) ⊎ ((6 ≤ left) × (left < count_in bytes + 6)))
IsHead (Open count) bytes left = (take 5 bytes ≡ 1 ∷ to_be_bytes w32 count)
    × (count + 6 ≤ left) × (count < 2 ^ 32)

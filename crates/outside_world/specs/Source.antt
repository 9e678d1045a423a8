-- What a source of bytes has left, where it tells it, and what one read moves.
use Rattle.std.specs.Prelude.{◌≡◌, ℕ, List, [], ◌++◌, Option, Some, None, IfSome}

-- these bytes and then the bytes left, where they are told
abbrev pub with_front : List ℕ → Option (List ℕ) → Option (List ℕ)
with_front front None = None
with_front front (Some rest) = Some (front ++ rest)

-- none is left, where the bytes left are told
abbrev pub IsSpent : Option (List ℕ) → Type 0
IsSpent left = IfSome left (λ bytes. bytes ≡ [])

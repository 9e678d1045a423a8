-- What a sink of bytes has taken, where it tells it, and what one write appends.
use Rattle.std.specs.Prelude.{◌≡◌, ℕ, ◌≤◌, List, ◌++◌, length, take, Option, Some, None}

-- the bytes taken and then these bytes, where they are told
abbrev pub with_back : Option (List ℕ) → List ℕ → Option (List ℕ)
with_back None back = None
with_back (Some bytes) back = Some (bytes ++ back)

-- a first part of the piece was appended, which may be empty or the whole, and nothing else
pub record AppendsPart (before after : Option (List ℕ)) (piece : List ℕ) : Type 0 where
  pub count : ℕ
  pub within : count ≤ length piece
  pub appended : after ≡ with_back before (take count piece)

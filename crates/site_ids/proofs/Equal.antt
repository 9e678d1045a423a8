-- What `==` says of texts.
use Rattle.std.proofs.Common.{◌≡◌, ℕ, List}
use Rattle.std.specs.Prelude.{nat_eq}
use Rattle.std.specs.Bool.{Decides}
use Rattle.std.specs.Cmp.Lexicographic.{pointwise, bytes_decides}

-- texts compare equal exactly where their bytes are the same
pub bytes_equal : (xs ys : List ℕ) → Decides (pointwise nat_eq xs ys) (xs ≡ ys)
bytes_equal = bytes_decides

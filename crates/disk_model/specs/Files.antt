-- What clauses see of the four files of a disk in memory.
use Rattle.std.specs.Prelude.{ℕ, List, [], slice_index_or}

-- the bytes of each file, and how many bytes each has room for
pub record FileBytes : Type 0 where
  pub files : List (List ℕ)
  pub room : ℕ

-- the bytes of a file
abbrev pub bytes_of : FileBytes → ℕ → List ℕ
bytes_of all file = slice_index_or all.files file []

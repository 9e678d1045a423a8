-- Laws of time tables, each proved in src/laws.rt.
use Rattle.std.specs.Prelude.{◌≡◌, ℕ, nat_eq, if◌then◌else◌, Some, None, List}
use Rattle.time_table.specs.Table.{moment_in, without, with_moment, IsTable}

-- a page that gets a moment has it, and each other page keeps its own
abbrev pub MomentIsSet : Type 0
MomentIsSet =
    (page moment other : ℕ) (entries : List (ℕ × ℕ)) →
    moment_in (with_moment page moment entries) other
    ≡ (if nat_eq page other then Some moment else moment_in entries other)

-- a page that is cleared has no moment, and each other page keeps its own
abbrev pub MomentIsCleared : Type 0
MomentIsCleared =
    (page other : ℕ) (entries : List (ℕ × ℕ)) →
    moment_in (without page entries) other
    ≡ (if nat_eq page other then None else moment_in entries other)

-- a table with one page set or cleared is a table
abbrev pub TablesStay : Type 0
TablesStay =
    (page moment : ℕ) (entries : List (ℕ × ℕ)) → IsTable entries →
    IsTable (with_moment page moment entries) × IsTable (without page entries)

-- The rows of a page and of all below it, among the rows of a tree.
use Rattle.std.specs.Prelude.{ℕ, ◌+◌, ◌-◌, List, Option, filter, length, slice_get}
use Rattle.std.specs.Option.{option_map_or}
use Rattle.page_tree.specs.Rows.{Row}
use Rattle.page_store.specs.Search.{begins}

-- the last element
abbrev pub last_of : {X : Type 0} → List X → Option X
last_of xs = slice_get xs (length xs - 1)

-- the rows whose path begins with this one
abbrev pub subtree_rows : {Body : Type 0} → List ℕ → List (Row Body) → List (Row Body)
subtree_rows path rows = filter (λ row. begins path row.path) rows

-- One more than the step that a path below this one has there: the step behind the last kid, where
-- it is the path of the last page below. Where the path is this one itself, there is no kid, and
-- the step is 1.
abbrev pub step_after : List ℕ → List ℕ → ℕ
step_after path last = option_map_or (λ step. step + 1) (slice_get last (length path)) 1

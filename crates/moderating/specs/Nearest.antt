-- The workflow that is assigned to a page, as a row of a tree has it.
use Rattle.std.specs.Prelude.{ℕ, List, Option, option_and_then}
use Rattle.page_tree.specs.Rows.{Row, row_with}
use Rattle.site_types.specs.declared.body.Body.{Body}

-- the workflow of the page with the id, where it has one of its own
abbrev pub own_workflow : ℕ → List (Row Body) → Option ℕ
own_workflow page pages = option_and_then (λ row. row.body.workflow) (row_with page pages)

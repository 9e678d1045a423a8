-- The rows so far.
use Rattle.std.proofs.Common.{◌≡◌, ◌++◌, ℕ, List, Some, map, take}
use Rattle.site_types.specs.declared.page_row.PageRow.{PageRow}
use Rattle.link_plans.specs.Told.{fate}
use Rattle.link_plans.proofs.fates.add_rows.Given as goal

abbrev pub invariant-loop-row : goal.invariant-loop-row
invariant-loop-row l =
    l.fates.items
    ≡ l.initial.fates.items
    ++ map (λ (row : PageRow × List ℕ). fate row.0.id (Some row.0.body)) (take l.row-index l.rows)

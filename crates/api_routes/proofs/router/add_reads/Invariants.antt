use Rattle.std.proofs.Common.{◌≡◌, length, map}
use Rattle.api_routes.specs.Router.{with_reads}
use Rattle.api_routes.proofs.router.add_reads.Given as goal

-- what is left of the table makes of the routes so far what the whole makes of those at first
abbrev pub invariant-loop-table : goal.invariant-loop-table
invariant-loop-table l =
    with_reads (map (λ row. (row.0.now, row.1)) l.table) l.router
    ≡ with_reads (map (λ row. (row.0.now, row.1)) l.initial.table) l.fn.router

-- the table gets shorter
abbrev pub decreases-loop-table : goal.decreases-loop-table
decreases-loop-table l = length l.table

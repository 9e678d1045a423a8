use Rattle.std.proofs.Common.{◌≡◌, length, map}
use Rattle.wire_model.specs.Routes.{read_at}
use Rattle.api_routes.proofs.path.read_at.Given as goal

-- what is left of the table has the route of the whole
abbrev pub invariant-loop-table : goal.invariant-loop-table
invariant-loop-table l =
    read_at (map (λ row. (row.0.now, row.1)) l.table) l.path
    ≡ read_at (map (λ row. (row.0.now, row.1)) l.initial.table) l.path

-- the table gets shorter
abbrev pub decreases-loop-table : goal.decreases-loop-table
decreases-loop-table l = length l.table

use Rattle.std.proofs.Common.{◌≡◌, length, map}
use Rattle.wire_model.specs.Tables.{named}
use Rattle.api_routes.proofs.table.named.Given as goal

-- what is left of the table has the value of the whole
abbrev pub invariant-loop-table : goal.invariant-loop-table
invariant-loop-table g l =
    named (map (λ row. (row.0.now, row.1)) l.table) l.text
    ≡ named (map (λ row. (row.0.now, row.1)) l.initial.table) l.text

-- the table gets shorter
abbrev pub decreases-loop-table : goal.decreases-loop-table
decreases-loop-table g l = length l.table

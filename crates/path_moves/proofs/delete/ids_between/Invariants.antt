-- The ids of the pages so far, in their order.
use Rattle.std.proofs.Common.{◌≡◌, map, take, drop}
use Rattle.path_moves.proofs.delete.ids_between.Given as goal

abbrev pub invariant-loop-done : goal.invariant-loop-done
invariant-loop-done l = l.ids.items ≡ map (λ row. row.id) (take l.done (drop l.place l.rows.pages))

-- The pages so far.
use Rattle.std.proofs.Common.{◌≡◌, ◌++◌, map, take, drop}
use Rattle.link_plans.specs.Told.{gone_fates}
use Rattle.link_plans.proofs.fates.add_range.Given as goal

abbrev pub invariant-loop-done : goal.invariant-loop-done
invariant-loop-done l =
    l.fates.items
    ≡ l.initial.fates.items
    ++ gone_fates (map (λ row. row.id) (take l.done (drop l.place l.rows.pages)))

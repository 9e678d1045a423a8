-- The pages so far.
use Rattle.std.proofs.Common.{◌≡◌, ◌++◌, ℕ, Some, map, take}
use Rattle.site_types.specs.declared.body.Body.{Body}
use Rattle.link_plans.specs.Told.{fate}
use Rattle.link_plans.proofs.fates.add_bodies.Given as goal

abbrev pub invariant-loop-one : goal.invariant-loop-one
invariant-loop-one l =
    l.fates.items
    ≡ l.initial.fates.items
    ++ map (λ (one : ℕ × Body). fate one.0 (Some one.1)) (take l.one-index l.bodies)

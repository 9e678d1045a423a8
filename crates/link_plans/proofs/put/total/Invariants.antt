-- The links so far, and those that are left.
use Rattle.std.proofs.Common.{◌≡◌, ◌+◌, drop}
use Rattle.link_plans.specs.Told.{total_links}
use Rattle.link_plans.proofs.put.total.Given as goal

abbrev pub invariant-loop-one : goal.invariant-loop-one
invariant-loop-one l =
    l.total + total_links (drop l.one-index l.planned) ≡ total_links l.planned

-- The pages so far, and those of the pairs that are left.
use Rattle.std.proofs.Common.{◌≡◌, ◌++◌}
use Rattle.std.specs.Prelude.{drop}
use Rattle.publishing.specs.Ticks.{pages_in}
use Rattle.publishing.specs.Ticked.{changed_bodies, ticked_body}
use Rattle.publishing.proofs.ticked.put_ticked.Given as goal

abbrev pub invariant-loop-pair : goal.invariant-loop-pair
invariant-loop-pair l =
    l.bodies.items
    ++ changed_bodies (ticked_body l.shelf.revisions l.t) l.rows.pages (pages_in (drop l.pair-index l.due))
    ≡ l.initial.bodies.items
    ++ changed_bodies (ticked_body l.shelf.revisions l.t) l.rows.pages (pages_in l.due)

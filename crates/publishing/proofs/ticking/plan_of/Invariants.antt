-- The pages so far in each list, and those of the pairs that are left.
use Rattle.std.proofs.Common.{◌≡◌, ◌++◌}
use Rattle.std.specs.Prelude.{drop}
use Rattle.publishing.specs.Ticks.{published_in, dropped_in}
use Rattle.publishing.proofs.ticking.plan_of.Given as goal

abbrev pub invariant-loop-pair : goal.invariant-loop-pair
invariant-loop-pair l =
    record {
      published : l.published.items
          ++ published_in l.rows.pages l.shelf.revisions l.t (drop l.pair-index l.due)
          ≡ published_in l.rows.pages l.shelf.revisions l.t l.due;
      dropped : l.dropped.items
          ++ dropped_in l.rows.pages l.shelf.revisions l.t (drop l.pair-index l.due)
          ≡ dropped_in l.rows.pages l.shelf.revisions l.t l.due;
    }

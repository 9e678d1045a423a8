-- The number lies between the two ends of the part that is left.
use Rattle.std.proofs.Common.{◌-◌, ◌≤◌, length}
use Rattle.step_path.specs.Path.{steps_of}
use Rattle.page_store.specs.Search.{leading, is_front}
use Rattle.page_store.proofs.search.count_front.Given as goal

abbrev pub invariant-loop-low : goal.invariant-loop-low
invariant-loop-low l =
    record {
      above : l.low ≤ leading (is_front l.front (steps_of l.path) l.stored.entries) l.order;
      below : leading (is_front l.front (steps_of l.path) l.stored.entries) l.order ≤ l.high;
      within : l.high ≤ length l.order;
    }

abbrev pub decreases-loop-low : goal.decreases-loop-low
decreases-loop-low l = l.high - l.low

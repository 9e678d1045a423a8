-- The pages so far, and those of the pairs that are left.
use Rattle.std.proofs.Common.{◌≡◌, ◌++◌}
use Rattle.std.specs.Prelude.{drop}
use Rattle.publishing.specs.Ticks.{pages_in}
use Rattle.publishing.proofs.ticking.pages_of.Given as goal

abbrev pub invariant-loop-pair : goal.invariant-loop-pair
invariant-loop-pair l = l.pages.items ++ pages_in (drop l.pair-index l.due) ≡ pages_in l.due

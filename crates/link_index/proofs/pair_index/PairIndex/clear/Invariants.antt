-- The pairs with other second numbers are those that were there.
use Rattle.std.proofs.Common.{◌≡◌, ◌≤◌, length}
use Rattle.link_index.specs.Pairs.{without}
use Rattle.link_index.proofs.pair_index.PairIndex.clear.Given as goal

abbrev pub invariant-loop : goal.invariant-loop
invariant-loop l =
    record {
      others : without l.second l.self.pairs ≡ without l.second l.initial.self.pairs;
      room : l.initial.self.spare ≤ l.self.spare;
    }

abbrev pub decreases-loop : goal.decreases-loop
decreases-loop l = length l.self.pairs

-- The second numbers of the pairs so far.
use Rattle.std.proofs.Common.{◌≡◌, ℕ, map, take}
use Rattle.link_index.proofs.aliases.seconds.Given as goal

abbrev pub invariant-loop-pair : goal.invariant-loop-pair
invariant-loop-pair l =
    l.numbers.items ≡ map (λ (pair : ℕ × ℕ). pair.1) (take l.pair-index l.pairs)

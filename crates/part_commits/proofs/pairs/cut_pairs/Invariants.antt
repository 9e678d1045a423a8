-- What is left to take out of what is left comes to what is to be left.
use Rattle.std.proofs.Common.{◌≡◌}
use Rattle.std.specs.Prelude.{drop}
use Rattle.site_part.specs.Plans.{pairs_left}
use Rattle.part_commits.proofs.pairs.cut_pairs.Given as goal

abbrev pub invariant-loop-number : goal.invariant-loop-number
invariant-loop-number l =
    pairs_left (drop l.number-index l.shut) l.pairs.pairs
    ≡ pairs_left l.shut l.initial.pairs.pairs

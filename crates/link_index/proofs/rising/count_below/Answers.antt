-- The partition point is the number of pairs at the front.
use Rattle.std.proofs.Common.{rules, ℕ, nat_lt}
use Rattle.std.proofs.lemmas.List.Sorted.{IsPartitionPoint-from_clause}
use Rattle.link_index.proofs.FrontLemmas.{parted, point_is, first_below}
use Rattle.link_index.proofs.rising.count_below.Goals as goal

pub returns-clause-count : goal.returns-clause-count
returns-clause-count c =
    let test = λ (pair : ℕ × ℕ). nat_lt pair.0 c.args.first in
    let point = IsPartitionPoint-from_clause test c.args.pairs.now c.partition_point.result
    c.partition_point.ensures.partitioned
    (parted test (first_below c.args.first) c.args.pairs.now c.requires)
    (λ a r f called. search rules) in
    point_is test c.args.pairs.now c.partition_point.result c.partition_point.ensures.bound point

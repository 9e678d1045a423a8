-- The partition point is the number of pairs at the front.
use Rattle.std.proofs.Common.{rules, ℕ}
use Rattle.std.proofs.lemmas.List.Sorted.{IsPartitionPoint-from_clause}
use Rattle.link_index.specs.Pairs.{is_earlier}
use Rattle.link_index.proofs.OrderLemmas.{earlier_trans}
use Rattle.link_index.proofs.FrontLemmas.{parted, point_is}
use Rattle.link_index.proofs.rising.place_of.Goals as goal

pub returns : goal.returns
returns c =
    let test = λ (pair : ℕ × ℕ). is_earlier pair (c.args.first, c.args.second) in
    let point = IsPartitionPoint-from_clause test c.args.pairs.now c.partition_point.result
    c.partition_point.ensures.partitioned
    (parted test (λ a b h k. earlier_trans a b (c.args.first, c.args.second) h k) c.args.pairs.now
    c.requires) (λ a r f called. search rules) in
    point_is test c.args.pairs.now c.partition_point.result c.partition_point.ensures.bound point

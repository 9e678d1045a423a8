-- The partition point is the number of pairs at the front.
use Rattle.std.proofs.Common.{rules, ℕ}
use Rattle.std.proofs.lemmas.List.Sorted.{IsPartitionPoint-from_clause}
use Rattle.time_table.specs.Table.{is_earlier}
use Rattle.time_table.proofs.EntryLemmas.{earlier_trans}
use Rattle.time_table.proofs.FrontLemmas.{parted, point_is}
use Rattle.time_table.proofs.order.place_of.Goals as goal

pub returns : goal.returns
returns c =
    let point = IsPartitionPoint-from_clause (λ (entry : ℕ × ℕ). is_earlier entry (c.args.at, c.args.page))
    c.args.order.now c.partition_point.result c.partition_point.ensures.partitioned
    (parted (λ entry. is_earlier entry (c.args.at, c.args.page))
    (λ a b h k. earlier_trans a b (c.args.at, c.args.page) h k) c.args.order.now c.requires)
    (λ a r f called. search rules) in
    point_is (λ entry. is_earlier entry (c.args.at, c.args.page)) c.args.order.now
    c.partition_point.result c.partition_point.ensures.bound point

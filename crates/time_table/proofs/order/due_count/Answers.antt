-- The partition point is the number of pairs at the front.
use Rattle.std.proofs.Common.{rules, ℕ, nat_le}
use Rattle.std.proofs.lemmas.List.Sorted.{IsPartitionPoint-from_clause}
use Rattle.time_table.proofs.EntryLemmas.{earlier_low}
use Rattle.time_table.proofs.FrontLemmas.{parted, point_is}
use Rattle.time_table.proofs.order.due_count.Goals as goal

pub returns-clause-count : goal.returns-clause-count
returns-clause-count c =
    let point = IsPartitionPoint-from_clause (λ (entry : ℕ × ℕ). nat_le entry.0 c.args.t)
    c.args.order.now c.partition_point.result c.partition_point.ensures.partitioned
    (parted (λ entry. nat_le entry.0 c.args.t) (λ a b h k. earlier_low a b c.args.t h k)
    c.args.order.now c.requires) (λ a r f called. search rules) in
    point_is (λ entry. nat_le entry.0 c.args.t) c.args.order.now c.partition_point.result
    c.partition_point.ensures.bound point

-- The partition point is the place of the revision.
use Rattle.std.proofs.Common.{rules}
use Rattle.std.proofs.lemmas.List.Sorted.{IsPartitionPoint-from_clause}
use Rattle.link_plans.proofs.FindLemmas.{is_below, parted, found_at}
use Rattle.link_plans.proofs.after.place_of.Goals as goal

pub returns : goal.returns
returns c =
    let point = IsPartitionPoint-from_clause (is_below c.args.id) c.args.revisions.now
    c.partition_point.result c.partition_point.ensures.partitioned
    (parted c.args.id c.args.revisions.now c.requires.rise) (λ a r f called. search rules) in
    found_at c.args.id c.args.revisions.now c.partition_point.result c.requires.rise
    c.partition_point.ensures.bound point

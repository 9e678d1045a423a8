-- The partition point is the place of the group.
use Rattle.std.proofs.Common.{rules, [], ◌∷◌}
use Rattle.std.proofs.lemmas.List.Sorted.{IsPartitionPoint-from_clause}
use Rattle.page_tree.specs.Rows.{comes_before}
use Rattle.site_types.specs.declared.world_rows.Member.{Member}
use Rattle.desk_pairs.proofs.PlaceLemmas.{parted, place_found}
use Rattle.grants.specs.Granted.{group_key}
use Rattle.grants.proofs.spans.place_of_group.Goals as goal

pub returns : goal.returns
returns c =
    let wanted = c.args.group ∷ [] in
    let point = IsPartitionPoint-from_clause
    (λ (member : Member). comes_before (group_key member) wanted) c.args.members.now
    c.partition_point.result c.partition_point.ensures.partitioned
    (parted group_key wanted c.args.members.now c.requires) (λ a r f called. search rules) in
    place_found group_key wanted c.args.members.now c.partition_point.result
    c.partition_point.ensures.bound point

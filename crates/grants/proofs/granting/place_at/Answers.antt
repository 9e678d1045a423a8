-- The partition point is the place of the key.
use Rattle.std.proofs.Common.{rules, [], ◌∷◌}
use Rattle.std.proofs.lemmas.List.Sorted.{IsPartitionPoint-from_clause}
use Rattle.page_tree.specs.Rows.{comes_before}
use Rattle.site_types.specs.declared.world_rows.Grant.{Grant}
use Rattle.site_model.specs.Users.{grant_key}
use Rattle.desk_pairs.proofs.PlaceLemmas.{parted, place_found}
use Rattle.grants.proofs.granting.place_at.Goals as goal

pub returns : goal.returns
returns c =
    let wanted = c.args.page ∷ c.args.group ∷ c.args.permission ∷ [] in
    let point = IsPartitionPoint-from_clause (λ (grant : Grant). comes_before (grant_key grant) wanted)
    c.args.grants.now c.partition_point.result c.partition_point.ensures.partitioned
    (parted grant_key wanted c.args.grants.now c.requires) (λ a r f called. search rules) in
    place_found grant_key wanted c.args.grants.now c.partition_point.result
    c.partition_point.ensures.bound point

-- The partition point is the place of the page.
use Rattle.std.proofs.Common.{rules, nat_lt}
use Rattle.std.proofs.lemmas.List.Sorted.{IsPartitionPoint-from_clause}
use Rattle.site_types.specs.declared.world_rows.DeskRow.{DeskRow}
use Rattle.desks.proofs.PlaceLemmas.{parted, place_found}
use Rattle.desks.proofs.place.place_of.Goals as goal

pub returns : goal.returns
returns c =
    let point = IsPartitionPoint-from_clause (λ (desk : DeskRow). nat_lt desk.page c.args.page)
    c.args.rows.now c.partition_point.result c.partition_point.ensures.partitioned
    (parted c.args.page c.args.rows.now c.requires) (λ a r f called. search rules) in
    place_found c.args.page c.args.rows.now c.partition_point.result
    c.partition_point.ensures.bound point

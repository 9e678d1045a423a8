-- A membership in the group is there exactly if one stands at the group's place.
use Rattle.std.proofs.Common.{[], ◌∷◌, nat_eq, ap, ◌∙◌}
use Rattle.std.specs.List.{slice_get}
use Rattle.site_types.specs.declared.world_rows.Member.{Member}
use Rattle.desk_pairs.specs.Places.{passes}
use Rattle.desk_pairs.proofs.PlaceLemmas.{found_at_place}
use Rattle.grants.specs.Granted.{group_key}
use Rattle.grants.proofs.SpanLemmas.{tests_group}
use Rattle.grants.proofs.spans.has_group.Goals as goal

pub returns : goal.returns
returns c =
    c.is_in.ensures
    ∙ (ap (λ place. passes (λ (member : Member). nat_eq member.group c.args.group)
    (slice_get c.args.members.now place)) c.place_of_group.ensures
    ∙ found_at_place group_key (c.args.group ∷ [])
    (λ (member : Member). nat_eq member.group c.args.group) (tests_group c.args.group)
    c.args.members.now c.requires)

-- No membership is in the groups so far.
use Rattle.std.proofs.Common.{◌≡◌, false, nat_eq, take}
use Rattle.std.specs.List.{list_any}
use Rattle.site_types.specs.declared.world_rows.Member.{Member}
use Rattle.grants.proofs.joining.has_any.Given as goal

abbrev pub invariant-loop-group : goal.invariant-loop-group
invariant-loop-group l =
    list_any (λ id. list_any (λ (member : Member). nat_eq member.group id) l.members)
    (take l.group-index l.groups)
    ≡ false

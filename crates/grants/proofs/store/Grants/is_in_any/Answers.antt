-- One of the user's memberships is in one of the groups.
use Rattle.std.proofs.Common.{List, nat_eq, map, filter, ap, ◌∙◌}
use Rattle.std.specs.List.{list_any}
use Rattle.site_types.specs.declared.world_rows.Member.{Member}
use Rattle.site_model.specs.Rights.{has_group}
use Rattle.grants.proofs.GroupLemmas.{members_asked}
use Rattle.grants.proofs.store.Grants.is_in_any.Goals as goal

pub returns : goal.returns
returns c =
    c.has_any.ensures
    ∙ (members_asked c.args.groups.now c.members_of.result.now
    ∙ ap (λ (members : List Member). list_any (λ own. has_group c.args.groups.now own)
    (map (λ (m : Member). m.group) members))
    (c.members_of.ensures.value
    ∙ ap (filter (λ (m : Member). nat_eq m.user c.args.user))
    (c.as_slice.ensures.value ∙ ap (λ k. k.members) c.self.view_is)))

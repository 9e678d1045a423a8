-- What is granted here is granted to the user's groups.
use Rattle.std.proofs.Common.{List, nat_eq, map, filter, ap, ◌∙◌}
use Rattle.std.specs.List.{list_any}
use Rattle.site_types.specs.declared.world_rows.Grant.{Grant}
use Rattle.site_types.specs.declared.world_rows.Member.{Member}
use Rattle.site_model.specs.Rights.{gives}
use Rattle.grants.specs.Granted.{held_where}
use Rattle.grants.proofs.store.Grants.granted_here.Goals as goal

pub returns : goal.returns
returns c =
    c.granted_at.ensures
    ∙ (ap (λ (members : List Member). held_where (λ p. list_any
    (gives (map (λ (m : Member). m.group) members) p c.args.page) c.as_slice-2.result.now))
    (c.members_of-own.ensures.value
    ∙ ap (filter (λ (m : Member). nat_eq m.user c.args.user))
    (c.as_slice.ensures.value ∙ ap (λ k. k.members) c.self.view_is))
    ∙ ap (λ (grants : List Grant). held_where (λ p. list_any
    (gives (map (λ (m : Member). m.group)
    (filter (λ (m : Member). nat_eq m.user c.args.user) c.args.self.now.members)) p c.args.page)
    grants)) (c.as_slice-2.ensures.value ∙ ap (λ k. k.grants) c.self.view_is))

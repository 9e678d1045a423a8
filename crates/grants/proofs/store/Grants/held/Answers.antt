-- What is held is what is granted to the user's groups on the walk to the page.
use Rattle.std.proofs.Common.{List, nat_eq, filter, sym, ap, ◌∙◌}
use Rattle.site_types.specs.declared.world_rows.Member.{Member}
use Rattle.site_types.specs.declared.world_rows.UserRow.{UserRow}
use Rattle.site_model.specs.Rights.{is_superuser}
use Rattle.grants.proofs.HeldLemmas.{held_is}
use Rattle.grants.proofs.store.Grants.held.Goals as goal

pub returns : goal.returns
returns c part same lists =
    held_is part c.args.user c.args.page c.granted_up.result c.members_of-own.result.now
    c.as_slice-2.result.now
    (ap (λ (users : List UserRow). is_superuser users c.args.user) (sym lists.users)
    ∙ (sym c.is_superuser.ensures ∙ c.if-is_superuser.false))
    (c.members_of-own.ensures.value
    ∙ ap (filter (λ (m : Member). nat_eq m.user c.args.user))
    (c.as_slice.ensures.value ∙ (ap (λ k. k.members) c.self.view_is ∙ lists.members)))
    (c.as_slice-2.ensures.value ∙ (ap (λ k. k.grants) c.self.view_is ∙ lists.grants))
    (c.granted_up.ensures part.tree same)

-- The grant gives its permission if a membership is in its group, and else nothing.
use Rattle.std.proofs.Common.{Bool, ◌&&◌, nat_eq, sym, ap, ◌∙◌}
use Rattle.std.specs.List.{list_any}
use Rattle.site_types.specs.declared.world_rows.Member.{Member}
use Rattle.site_model.specs.Rights.{is_same}
use Rattle.grants.specs.Granted.{held_where}
use Rattle.grants.proofs.right.given_by.Goals as goal

pub returns-then-has_group : goal.returns-then-has_group
returns-then-has_group c =
    c.alone.ensures
    ∙ ap (λ (t : Bool). held_where (λ p. t && is_same c.args.grant.now.permission p))
    (sym c.if-has_group.true
    ∙ (c.has_group.ensures
    ∙ ap (λ group. list_any (λ (m : Member). nat_eq m.group group) c.args.members.now)
    c.get.ensures.value))

pub returns-else-has_group : goal.returns-else-has_group
returns-else-has_group c =
    ap (λ (t : Bool). held_where (λ p. t && is_same c.args.grant.now.permission p))
    (sym c.if-has_group.false
    ∙ (c.has_group.ensures
    ∙ ap (λ group. list_any (λ (m : Member). nat_eq m.group group) c.args.members.now)
    c.get.ensures.value))

-- The memberships of a user stand between those of lower users and those of higher ones.
use Rattle.std.proofs.Common.{nat_eq, nat_lt, nat_le, take, drop, length, ◌-◌, subst, sym, rules}
use Rattle.std.proofs.lemmas.List.{take_rest}
use Rattle.std.proofs.lemmas.List.Sorted.{IsPartitionPoint-from_clause}
use Rattle.site_types.specs.declared.world_rows.Member.{Member}
use Rattle.site_model.specs.Sound.{KeysRise}
use Rattle.site_model.specs.Users.{member_key}
use Rattle.grants.proofs.SpanLemmas.{parted, rest_rises, span_is, lower_first, lower_or_same, between_is, groups_rise}
use Rattle.grants.specs.Granted.{group_key}
use Rattle.grants.proofs.spans.members_of.Goals as goal

-- the memberships are the user's
value : goal.returns-clause-value
value c =
    let all = c.args.members.now in
    let start = c.partition_point-start.result in
    let first = IsPartitionPoint-from_clause (λ (m : Member). nat_lt m.user c.args.user) all start
    c.partition_point-start.ensures.partitioned
    (parted member_key (λ (m : Member). nat_lt m.user c.args.user)
    (λ x y before lower. lower_first c.args.user x.user y.user _ before lower) all c.requires)
    (λ a r q k. search rules) in
    let rise = subst (KeysRise member_key) (sym (take_rest all start))
    (rest_rises member_key (λ (m : Member). nat_lt m.user c.args.user) all start first c.requires)
    in
    let second = IsPartitionPoint-from_clause (λ (m : Member). nat_le m.user c.args.user)
    (take (length all - start) (drop start all)) c.partition_point-end.result
    c.partition_point-end.ensures.partitioned
    (parted member_key (λ (m : Member). nat_le m.user c.args.user)
    (λ x y before lower. lower_or_same c.args.user x.user y.user _ before lower)
    (take (length all - start) (drop start all)) rise)
    (λ a r q k. search rules) in
    span_is (λ (m : Member). nat_lt m.user c.args.user) (λ (m : Member). nat_le m.user c.args.user)
    (λ (m : Member). nat_eq m.user c.args.user) all start c.partition_point-end.result
    (λ m. between_is c.args.user m.user) first second

pub returns-clause-value : goal.returns-clause-value
returns-clause-value c = value c

pub returns-clause-groups : goal.returns-clause-groups
returns-clause-groups c =
    subst (KeysRise group_key) (sym (value c)) (groups_rise c.args.user c.args.members.now c.requires)

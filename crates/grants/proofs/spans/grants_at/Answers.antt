-- The grants at a page stand between those at lower pages and those at higher ones.
use Rattle.std.proofs.Common.{nat_eq, nat_lt, nat_le, take, drop, length, ◌-◌, subst, sym, rules}
use Rattle.std.proofs.lemmas.List.{take_rest}
use Rattle.std.proofs.lemmas.List.Sorted.{IsPartitionPoint-from_clause}
use Rattle.site_types.specs.declared.world_rows.Grant.{Grant}
use Rattle.site_model.specs.Sound.{KeysRise}
use Rattle.site_model.specs.Users.{grant_key}
use Rattle.grants.proofs.SpanLemmas.{parted, rest_rises, span_is, lower_first, lower_or_same, between_is}
use Rattle.grants.proofs.spans.grants_at.Goals as goal

pub returns : goal.returns
returns c =
    let all = c.args.grants.now in
    let start = c.partition_point-start.result in
    let first = IsPartitionPoint-from_clause (λ (g : Grant). nat_lt g.page c.args.page) all start
    c.partition_point-start.ensures.partitioned
    (parted grant_key (λ (g : Grant). nat_lt g.page c.args.page)
    (λ x y before lower. lower_first c.args.page x.page y.page _ before lower) all c.requires)
    (λ a r q k. search rules) in
    let rise = subst (KeysRise grant_key) (sym (take_rest all start))
    (rest_rises grant_key (λ (g : Grant). nat_lt g.page c.args.page) all start first c.requires)
    in
    let second = IsPartitionPoint-from_clause (λ (g : Grant). nat_le g.page c.args.page)
    (take (length all - start) (drop start all)) c.partition_point-end.result
    c.partition_point-end.ensures.partitioned
    (parted grant_key (λ (g : Grant). nat_le g.page c.args.page)
    (λ x y before lower. lower_or_same c.args.page x.page y.page _ before lower)
    (take (length all - start) (drop start all)) rise)
    (λ a r q k. search rules) in
    span_is (λ (g : Grant). nat_lt g.page c.args.page) (λ (g : Grant). nat_le g.page c.args.page)
    (λ (g : Grant). nat_eq g.page c.args.page) all start c.partition_point-end.result
    (λ g. between_is c.args.page g.page) first second

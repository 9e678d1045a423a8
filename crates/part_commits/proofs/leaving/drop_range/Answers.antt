-- The pages of the range are those that go.
use Rattle.std.proofs.Common.{rules}
use Rattle.publishing.proofs.TimesLemmas.{timed-left}
use Rattle.page_store.specs.Changes.{without_range}
use Rattle.part_commits.proofs.AliasLemmas.{aliased_left}
use Rattle.link_plans.proofs.GoingLemmas.{ids_of_range, range_within}
use Rattle.part_commits.proofs.LeavingLemmas.{range_left}
use Rattle.part_commits.proofs.leaving.drop_range.Goals as goal

pub unreachable-requires : goal.unreachable-requires
unreachable-requires c =
    let never = c.in_default.ensures.there.1 c.requires in
    search rules

pub drop_between-requires : goal.drop_between-requires
drop_between-requires c =
    range_within c.args.page c.args.rows.now.pages c.in-Some.place c.in-Some.count c.requires
    c.in-Some.ensures.range

pub returns-clause-timed : goal.returns-clause-timed
returns-clause-timed c = λ revisions timed.
    let pages = c.args.rows.now.pages in
    timed-left (ids_of_range pages c.in-Some.place c.in-Some.count) c.args.times.now _ pages
    (without_range c.args.page pages) revisions c.drop_between.ensures.expiries
    c.drop_between.ensures.go_lives timed
    (range_left c.args.page pages c.in-Some.place c.in-Some.count c.requires
    c.len-len.ensures.pages.own_ids c.in-Some.ensures.range)

pub returns-clause-aliased : goal.returns-clause-aliased
returns-clause-aliased c = λ aliased.
    let pages = c.args.rows.now.pages in
    aliased_left (ids_of_range pages c.in-Some.place c.in-Some.count) c.args.aliases.now.pairs _
    pages (without_range c.args.page pages) c.drop_between.ensures.pairs
    (range_left c.args.page pages c.in-Some.place c.in-Some.count c.requires
    c.len-len.ensures.pages.own_ids c.in-Some.ensures.range)
    aliased

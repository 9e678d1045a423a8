-- The page and its parent are looked up, and then the URLs are planned.
use Rattle.std.proofs.Common.{Err, Ok, sym, subst, ◌∙◌}
use Rattle.tree_model.proofs.CountLemmas.{told_apart}
use Rattle.slug_urls.specs.Plans.{planned_urls, UnlessMemory}
use Rattle.site_model.specs.Slugs.{slug_rules}
use Rattle.tree_edits.specs.Naming.{AreNewUrls}
use Rattle.new_pages.specs.Plans.{PlansBy}
use Rattle.tree_edits.proofs.MovePlans.{no_row_missing}
use Rattle.tree_edits.proofs.SlugCall.{seen, no_parent, below, parent_is_there, parent_outside, sought, same_slug}
use Rattle.tree_edits.proofs.SlugLemmas.{row_named}
use Rattle.tree_edits.proofs.SlugPlans.{urls_told}
use Rattle.tree_edits.proofs.renaming.urls_with.Goals as goal

pub unreachable-requires : goal.unreachable-requires
unreachable-requires c =
    no_row_missing c.args.rows.now.pages c.args.page _
    (row_named c.args.rows.now.pages c.requires.0 c.args.page c.args.slug.now c.requires.1)
    c.row.ensures c.in_default.is

pub unreachable-requires-in_default-parent : goal.unreachable-requires-in_default-parent
unreachable-requires-in_default-parent c =
    no_parent _ c.args.page c.in-Some.row.now
    (seen _ c.args.page c.row.result c.in-Some.row c.row.ensures c.in-Some.is)
    c.len-len.ensures.pages c.parent.result c.parent.ensures c.in_default-parent.is
    (told_apart c.args.page 1 c.requires.1.named.1)

pub returns-then-eq : goal.returns-then-eq
returns-then-eq c = λ part named.
    same_slug _ c.args.page c.in-Some.row.now
    (seen _ c.args.page c.row.result c.in-Some.row c.row.ensures c.in-Some.is) part.tree
    c.args.slug.now named.stands (sym c.eq.ensures.value ∙ c.if-eq.true)

pub plan_urls-requires-clause-parent_there : goal.plan_urls-requires-clause-parent_there
plan_urls-requires-clause-parent_there c =
    let of = seen _ c.args.page c.row.result c.in-Some.row c.row.ensures c.in-Some.is in
    parent_is_there _ c.args.page c.in-Some.row.now of c.len-len.ensures.pages
    c.in-Some-parent.parent
    (below _ c.args.page c.in-Some.row.now of c.parent.result c.in-Some-parent.parent
    c.parent.ensures c.in-Some-parent.is)

pub plan_urls-requires-clause-outside : goal.plan_urls-requires-clause-outside
plan_urls-requires-clause-outside c =
    let of = seen _ c.args.page c.row.result c.in-Some.row c.row.ensures c.in-Some.is in
    parent_outside _ c.args.page c.in-Some.row.now of c.len-len.ensures.pages
    c.in-Some-parent.parent
    (below _ c.args.page c.in-Some.row.now of c.parent.result c.in-Some-parent.parent
    c.parent.ensures c.in-Some-parent.is)

pub returns-in-Ok : goal.returns-in-Ok
returns-in-Ok c = λ part named.
    let of = seen _ c.args.page c.row.result c.in-Some.row c.row.ensures c.in-Some.is in
    let under = below _ c.args.page c.in-Some.row.now of c.parent.result c.in-Some-parent.parent
    c.parent.ensures c.in-Some-parent.is in
    let known = sought _ c.args.page c.in-Some.row.now of part named.sound named.stands
    c.args.slug.now c.in-Some-parent.parent under (sym c.eq.ensures.value ∙ c.if-eq.false) in
    urls_told part c.args.page c.args.slug.now of.top c.in-Some-parent.parent known
    (Ok c.in-Ok.urls)
    (subst (UnlessMemory (planned_urls part.tree c.args.page c.in-Some-parent.parent
    c.args.slug.now)) c.in-Ok.is (c.plan_urls.ensures part.tree named.stands))

pub returns-in-Err : goal.returns-in-Err
returns-in-Err c = λ part named.
    let of = seen _ c.args.page c.row.result c.in-Some.row c.row.ensures c.in-Some.is in
    let under = below _ c.args.page c.in-Some.row.now of c.parent.result c.in-Some-parent.parent
    c.parent.ensures c.in-Some-parent.is in
    let known = sought _ c.args.page c.in-Some.row.now of part named.sound named.stands
    c.args.slug.now c.in-Some-parent.parent under (sym c.eq.ensures.value ∙ c.if-eq.false) in
    subst (λ f. PlansBy (slug_rules part.tree c.args.page c.args.slug.now)
    (AreNewUrls part.tree c.args.page c.args.slug.now) (Err f)) (sym c.url_fault.ensures)
    (urls_told part c.args.page c.args.slug.now of.top c.in-Some-parent.parent known
    (Err c.in-Err.fault)
    (subst (UnlessMemory (planned_urls part.tree c.args.page c.in-Some-parent.parent
    c.args.slug.now)) c.in-Err.is (c.plan_urls.ensures part.tree named.stands)))

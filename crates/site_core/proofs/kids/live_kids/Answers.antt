-- The first of the kids are told, one by one.
use Rattle.std.proofs.Common.{sym, ap, subst, ◌∙◌, arith}
use Rattle.page_tree.specs.Rows.{kids_in}
use Rattle.public_view.specs.declared.kid.TheConstants.{MAX_KIDS}
use Rattle.site_core.specs.Kids.{with_told, kids_told}
use Rattle.site_core.proofs.FirstLemmas.{AreFirst, first_full, first_all, first_more}
use Rattle.site_core.proofs.KidLemmas.{shown_first}
use Rattle.site_core.proofs.kids.live_kids.Goals as goal

pub returns-then-len-ge-MAX_KIDS : goal.returns-then-len-ge-MAX_KIDS
returns-then-len-ge-MAX_KIDS c = λ world pages revisions.
    let full = c.if-len-ge-MAX_KIDS.true in
    let len = c.len.ensures in
    c.from_vec.ensures
    ∙ (first_full MAX_KIDS c.loop-kid.kids.items _ _ (c.loop-kid.invariant world.part.tree pages)
    (omega (arith, full, len, c.loop-kid.kids.ok))
    ∙ shown_first world c.args.rows.now.pages c.args.shelf.now.revisions c.args.page
    c.len-len.ensures.pages pages revisions)

pub loop-kid-preserved-in-Continue-branch-3 : goal.loop-kid-preserved-in-Continue-branch-3
loop-kid-preserved-in-Continue-branch-3 c = λ tree pages.
    let few = c.if-len-ge-MAX_KIDS.false in
    let len = c.len.ensures in
    let told = sym (c.in_ok-told.ensures tree pages) ∙ c.in-Some-2.is in
    let left = kids_told tree c.args.shelf.now.revisions c.args.rows.now.pages c.next.new.self in
    let all = kids_told tree c.args.shelf.now.revisions c.args.rows.now.pages
    (kids_in c.args.page c.args.rows.now.pages) in
    subst (λ kids. AreFirst MAX_KIDS kids left all) (sym c.in_ok-push.ensures.items)
    (first_more MAX_KIDS c.loop-kid.kids.items left all c.in-Some-2.told
    (omega (arith, few, len, c.loop-kid.kids.ok))
    (subst (λ rest. AreFirst MAX_KIDS c.loop-kid.kids.items rest all)
    (ap (kids_told tree c.args.shelf.now.revisions c.args.rows.now.pages) c.in-Some.ensures.steps
    ∙ ap (λ one. with_told one left) told)
    (c.loop-kid.invariant tree pages)))

pub returns : goal.returns
returns c = λ world pages revisions.
    c.from_vec-2.ensures
    ∙ (first_all MAX_KIDS c.loop-kid.kids.items _ _ (c.loop-kid.invariant world.part.tree pages)
    (ap (kids_told world.part.tree c.args.shelf.now.revisions c.args.rows.now.pages)
    c.in-None.ensures.steps.0)
    ∙ shown_first world c.args.rows.now.pages c.args.shelf.now.revisions c.args.page
    c.len-len.ensures.pages pages revisions)

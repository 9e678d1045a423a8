-- The latest of the page goes from each of the three that the shelf keeps.
use Rattle.std.proofs.Common.{◌≡◌, ◌∙◌, ◌<◌, Some, IsTrue, true, not, nat_eq, map, filter, List, length, sym, ap, subst}
use Rattle.site_types.specs.declared.revision.Revision.{Revision}
use Rattle.revision_shelf.specs.Shelf.{RevisionList, without_page, latest_of}
use Rattle.revision_shelf.specs.Kept.{revisions_seen, without_latest, IsKept}
use Rattle.revision_shelf.proofs.RiseLemmas.{ids_rise}
use Rattle.revision_shelf.proofs.SeenLemmas.{seen-kept}
use Rattle.revision_shelf.proofs.RemoveLemmas.{none_goes, goes_with}
use Rattle.revision_shelf.proofs.ChainLemmas.{ids-without, chained_of, kept_of, none_latest, others_then, fewer_then}
use Rattle.revision_shelf.proofs.shelf.Shelf.take_latest.Goals as goal

pub cut-requires : goal.cut-requires
cut-requires c = rw (← c.self.invariant.ids) (ids_rise 0 _ c.self.invariant.rises)

-- the latest is the one that was found
latest_then : (c : goal.After-cut) →
    latest_of c.args.page (revisions_seen c.self.inside.stored.entries c.self.inside.order.items) ≡ Some
    c.in-Some.id
latest_then c =
    sym (c.self.invariant.last c.args.page) ∙ sym c.take_newest.ensures.newest ∙ c.in-Some.is

-- what the shelf keeps then stands for those that stay
kept_then : (c : goal.After-cut) →
    IsKept c.take_newest.new.stored.entries c.take_newest.new.newest.entries c.cut.new.order.items
    c.take_newest.new.weight (without_latest c.args.page (revisions_seen c.self.inside.stored.entries
    c.self.inside.order.items))
kept_then c =
    let kept = c.self.invariant in
    let revisions = revisions_seen c.self.inside.stored.entries c.self.inside.order.items in
    kept_of _ _ _ _ _ (c.take_newest.ensures.chained revisions (chained_of _ _ _ _ _ kept))
    (c.cut.ensures.items ∙ ap (filter (λ other. not (nat_eq other c.in-Some.id))) (sym kept.ids)
    ∙ sym (ids-without c.in-Some.id revisions) ∙ ap (map (λ (r : Revision). r.id)) (sym (goes_with
    c.args.page c.in-Some.id revisions (latest_then c))))

-- and those are seen
seen_then : (c : goal.After-cut) →
    revisions_seen c.take_newest.new.stored.entries c.cut.new.order.items ≡ without_latest c.args.page
    (revisions_seen c.self.inside.stored.entries c.self.inside.order.items)
seen_then c = seen-kept _ _ _ _ _ (kept_then c)

pub invariant_of-self : goal.invariant_of-self
invariant_of-self c =
    subst (λ (rows : List Revision). IsKept c.take_newest.new.stored.entries
    c.take_newest.new.newest.entries c.cut.new.order.items c.take_newest.new.weight rows) (sym (seen_then
    c)) (kept_then c)

pub returns-in-Some-clause-revisions : goal.returns-in-Some-clause-revisions
returns-in-Some-clause-revisions c =
    subst (λ (v : RevisionList). revisions_seen c.take_newest.new.stored.entries c.cut.new.order.items ≡
    without_latest c.args.page v.revisions) c.self.view_is (seen_then c)

pub returns-in-Some-clause-others : goal.returns-in-Some-clause-others
returns-in-Some-clause-others c =
    subst (λ (v : RevisionList). without_page c.args.page (revisions_seen
    c.take_newest.new.stored.entries c.cut.new.order.items) ≡ without_page c.args.page v.revisions)
    c.self.view_is (ap (without_page c.args.page) (seen_then c) ∙ others_then c.args.page _
    c.self.invariant.rises)

pub returns-in-Some-clause-shorter : goal.returns-in-Some-clause-shorter
returns-in-Some-clause-shorter c =
    subst (λ (v : RevisionList). IsTrue true → length (revisions_seen c.take_newest.new.stored.entries
    c.cut.new.order.items) < length v.revisions) c.self.view_is (λ h. rw (seen_then c) (fewer_then
    c.args.page c.in-Some.id _ (latest_then c)))

pub returns-in-None-clause-none : goal.returns-in-None-clause-none
returns-in-None-clause-none c = λ h.
    let kept = c.self.invariant in
    let revisions = revisions_seen c.self.inside.stored.entries c.self.inside.order.items in
    let none = sym (kept.last c.args.page) ∙ sym c.take_newest.ensures.newest ∙ c.in-None.is in
    let same = none_latest c.args.page revisions none in
    let seen = seen-kept _ _ _ _ _ (kept_of _ _ _ _ _ (c.take_newest.ensures.chained revisions
    (chained_of _ _ _ _ _ kept)) (sym kept.ids ∙ ap (map (λ (r : Revision). r.id)) (sym same))) in
    subst (λ (rows : List Revision). without_page c.args.page rows ≡ rows) (sym (seen ∙ same)) (none_goes
    c.args.page revisions none)

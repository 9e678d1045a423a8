-- The revision goes from each of the three that the shelf keeps.
use Rattle.std.proofs.Common.{◌≡◌, ◌∙◌, Some, not, nat_eq, filter, List, sym, ap, subst}
use Rattle.site_types.specs.declared.revision.Revision.{Revision}
use Rattle.revision_shelf.specs.Shelf.{RevisionList, latest_of}
use Rattle.revision_shelf.specs.Kept.{revisions_seen, without, before_in, IsKept, IsOwn}
use Rattle.revision_shelf.proofs.RiseLemmas.{ids_rise}
use Rattle.revision_shelf.proofs.SeenLemmas.{seen-kept}
use Rattle.revision_shelf.proofs.ChainLemmas.{ids-without, chained_of, kept_of}
use Rattle.revision_shelf.proofs.shelf.Shelf.take.Goals as goal

pub cut-requires : goal.cut-requires
cut-requires c = rw (← c.self.invariant.ids) (ids_rise 0 _ c.self.invariant.rises)

-- what the shelf keeps then stands for those that stay
kept_then : (c : goal.After-cut) →
    IsKept c.unlink.new.stored.entries c.unlink.new.newest.entries c.cut.new.order.items
    c.unlink.new.weight (without c.args.id (revisions_seen c.self.inside.stored.entries
    c.self.inside.order.items))
kept_then c =
    let kept = c.self.invariant in
    let revisions = revisions_seen c.self.inside.stored.entries c.self.inside.order.items in
    let own = subst (λ (v : RevisionList). IsOwn c.args.page c.args.after v.revisions) (sym
    c.self.view_is) c.requires.own in
    let before = subst (λ (v : RevisionList). latest_of c.args.page (before_in c.args.after v.revisions)
    ≡ Some c.args.id) (sym c.self.view_is) c.requires.before in
    kept_of _ _ _ _ _ (c.unlink.ensures.chained revisions (chained_of _ _ _ _ _ kept) own before)
    (c.cut.ensures.items ∙ ap (filter (λ other. not (nat_eq other c.args.id))) (sym kept.ids)
    ∙ sym (ids-without c.args.id revisions))

-- and those are seen
seen_then : (c : goal.After-cut) →
    revisions_seen c.unlink.new.stored.entries c.cut.new.order.items ≡ without c.args.id
    (revisions_seen c.self.inside.stored.entries c.self.inside.order.items)
seen_then c = seen-kept _ _ _ _ _ (kept_then c)

pub invariant_of-self : goal.invariant_of-self
invariant_of-self c =
    subst (λ (rows : List Revision). IsKept c.unlink.new.stored.entries c.unlink.new.newest.entries
    c.cut.new.order.items c.unlink.new.weight rows) (sym (seen_then c)) (kept_then c)

pub returns-clause-revisions : goal.returns-clause-revisions
returns-clause-revisions c =
    subst (λ (v : RevisionList). revisions_seen c.unlink.new.stored.entries c.cut.new.order.items ≡
    without c.args.id v.revisions) c.self.view_is (seen_then c)

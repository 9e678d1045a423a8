-- The chains go, and the ids that are left are those of the other revisions.
use Rattle.std.proofs.Common.{◌≡◌, List, sym, subst}
use Rattle.site_types.specs.declared.revision.Revision.{Revision}
use Rattle.revision_shelf.specs.Shelf.{RevisionList, without_pages}
use Rattle.revision_shelf.specs.Kept.{revisions_seen, IsKept}
use Rattle.revision_shelf.proofs.SeenLemmas.{seen-kept}
use Rattle.revision_shelf.proofs.ChainLemmas.{chained_of, kept_of, ids_left}
use Rattle.revision_shelf.proofs.shelf.Shelf.drop_together.Goals as goal

-- what the shelf keeps then stands for the other pages' revisions
kept_then : (c : goal.After-keep_stored) →
    IsKept c.take_pages.new.stored.entries c.take_pages.new.newest.entries
    c.keep_stored.new.order.items c.take_pages.new.weight (without_pages c.args.pages.now
    (revisions_seen c.self.inside.stored.entries c.self.inside.order.items))
kept_then c =
    let kept = c.self.invariant in
    let chained = c.take_pages.ensures.chained _ (chained_of _ _ _ _ _ kept) in
    kept_of _ _ _ _ _ chained (ids_left _ _ _ c.args.pages.now _ _ _ kept.rises kept.ids chained
    c.keep_stored.ensures.items)

pub invariant_of-self : goal.invariant_of-self
invariant_of-self c =
    let kept = kept_then c in
    subst (λ (rows : List Revision). IsKept c.take_pages.new.stored.entries
    c.take_pages.new.newest.entries c.keep_stored.new.order.items c.take_pages.new.weight rows) (sym
    (seen-kept _ _ _ _ _ kept)) kept

pub returns-clause-revisions : goal.returns-clause-revisions
returns-clause-revisions c =
    subst (λ (v : RevisionList). revisions_seen c.take_pages.new.stored.entries
    c.keep_stored.new.order.items ≡ without_pages c.args.pages.now v.revisions) c.self.view_is
    (seen-kept _ _ _ _ _ (kept_then c))

-- The new revision is kept behind all others.
use Rattle.std.proofs.Common.{◌≡◌, ◌+◌, ◌<◌, ◌≤◌, List, [], ◌∷◌, ◌++◌, sym, subst, arith}
use Rattle.std.specs.List.{AllByRecursion}
use Rattle.site_types.specs.Ids.{IsRevisionId}
use Rattle.site_types.specs.declared.revision.Revision.{Revision}
use Rattle.revision_shelf.specs.declared.shelf.Kept.{Kept}
use Rattle.revision_shelf.specs.Shelf.{RevisionList}
use Rattle.revision_shelf.specs.Kept.{revisions_seen, IsKept}
use Rattle.revision_shelf.proofs.SeenLemmas.{seen-kept}
use Rattle.revision_shelf.proofs.RiseLemmas.{total-bound}
use Rattle.revision_shelf.proofs.AddLemmas.{add_kept}
use Rattle.revision_shelf.proofs.shelf.Shelf.add.Goals as goal

pub overflow_add-weight : goal.overflow_add-weight
overflow_add-weight c =
    let bound = total-bound 0 _ c.self.invariant.rises (omega arith) in
    let weighs = c.self.invariant.weighs in
    let fits : c.form_length.result ≤ 65_536 = rw
    (c.form_length.ensures.value) c.form_length.ensures.fits.form_fits in
    omega arith

-- what the shelf keeps then stands for all revisions
kept_then : (c : goal.After-self-1) →
    IsKept c.put.new.map.entries c.put-previous.new.map.entries c.push.new.order.items (c.self.inside.weight
    + c.form_length.result) (revisions_seen c.self.inside.stored.entries c.self.inside.order.items ++
    c.args.revision ∷ [])
kept_then c =
    let new : Kept = record { revision = c.args.revision; previous = c.put-previous.result } in
    let above = subst (λ (v : RevisionList). AllByRecursion (λ (r : Revision). r.id < c.args.revision.id)
    v.revisions) (sym c.self.view_is) c.requires.newer in
    let is_id = subst IsRevisionId c.get-number.ensures.value c.get-number.ensures.range in
    rw (c.push.ensures.items, c.form_length.ensures.value)
    (add_kept _ _ _ _ _ _ _ c.self.invariant new above is_id c.form_length.ensures.fits.form_fits
    c.put-previous.ensures.old c.put.ensures.updates.0 c.put-previous.ensures.updates.0)

pub invariant_of-self : goal.invariant_of-self
invariant_of-self c =
    let kept = kept_then c in
    subst (λ (rows : List Revision). IsKept c.put.new.map.entries c.put-previous.new.map.entries
    c.push.new.order.items (c.self.inside.weight + c.form_length.result) rows) (sym (seen-kept _ _ _ _ _
    kept)) kept

pub returns-clause-revisions : goal.returns-clause-revisions
returns-clause-revisions c =
    subst (λ (v : RevisionList). revisions_seen c.put.new.map.entries c.push.new.order.items ≡
    v.revisions ++ c.args.revision ∷ []) c.self.view_is (seen-kept _ _ _ _ _ (kept_then c))

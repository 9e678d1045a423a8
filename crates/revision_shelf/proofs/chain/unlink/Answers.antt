-- The one after it leads to the one before it, or that is the page's newest.
use Rattle.std.proofs.Common.{◌≡◌, ◌∙◌, ℕ, List, Option, Some, None, IsSome, refl, sym, ap, subst}
use Rattle.std.specs.Option.{option_map}
use Rattle.site_types.specs.declared.revision.Revision.{Revision}
use Rattle.revision_shelf.specs.declared.shelf.Kept.{Kept}
use Rattle.revision_shelf.specs.Shelf.{latest_of}
use Rattle.revision_shelf.specs.Kept.{is_before, before_in, IsOwn}
use Rattle.revision_shelf.proofs.LatestLemmas.{latest-found}
use Rattle.revision_shelf.proofs.RemoveLemmas.{total_at_least, goes_with}
use Rattle.revision_shelf.proofs.ChainLemmas.{take_one}
use Rattle.revision_shelf.proofs.MendLemmas.{mend_one}
use Rattle.revision_shelf.proofs.PurgeLemmas.{before_none}
use Rattle.revision_shelf.proofs.chain.unlink.Goals as goal

-- the page's last before none is its latest
last_of : (page id : ℕ) (after : Option ℕ) (revisions : List Revision) → after ≡ None →
    latest_of page (before_in after revisions) ≡ Some id → latest_of page revisions ≡ Some id
last_of page id after revisions none before =
    ap (latest_of page) (sym (ap (λ o. before_in o revisions) none ∙ before_none revisions)) ∙ before

pub unreachable-requires : goal.unreachable-requires
unreachable-requires c =
    let kept = c.requires.chained.1 in
    latest-found c.args.page c.args.id (λ (r : Revision). is_before c.args.after r.id)
    c.requires.chained.0 c.requires.chained.3 (kept.found c.args.id ∙ ap (option_map (λ (kept : Kept).
    kept.revision)) (sym c.swap_remove.ensures.value ∙ c.in_default.is))

pub overflow_sub-weight : goal.overflow_sub-weight
overflow_sub-weight c =
    rw (c.form_length-weighs.ensures.value) (total_at_least _ _ _ _ _ c.requires.chained.1 c.args.id
    c.in-Some.kept (sym c.swap_remove.ensures.value ∙ c.in-Some.is))

pub returns-in-Some-after-clause-chained : goal.returns-in-Some-after-clause-chained
returns-in-Some-after-clause-chained c = λ revisions kept own before.
    rw (c.form_length-weighs.ensures.value) (mend_one _ _ _ _ _ c.args.page c.args.id c.in-Some-after.after
    c.in-Some.kept (sym c.swap_remove.ensures.value ∙ c.in-Some.is) c.swap_remove.ensures.updates.0
    c.set_previous.ensures.others revisions kept (subst (λ (o : Option ℕ). IsOwn c.args.page o
    revisions) c.in-Some-after.is own) (subst (λ (o : Option ℕ). latest_of c.args.page (before_in o
    revisions) ≡ Some c.args.id) c.in-Some-after.is before))

pub set_newest-requires : goal.set_newest-requires
set_newest-requires c =
    let kept = c.requires.chained.1 in
    subst IsSome (sym (kept.last c.args.page ∙ last_of c.args.page c.args.id c.args.after
    c.requires.chained.0 c.in-None.is c.requires.chained.3)) refl

pub returns-clause-chained : goal.returns-clause-chained
returns-clause-chained c = λ revisions kept own before.
    let last = last_of c.args.page c.args.id c.args.after revisions c.in-None.is before in
    rw (← goes_with c.args.page c.args.id revisions last, c.form_length-weighs.ensures.value)
    (take_one _ _ _ _ _
    c.args.page c.args.id c.in-Some.kept (kept.last c.args.page ∙ last) (sym
    c.swap_remove.ensures.value ∙ c.in-Some.is) c.swap_remove.ensures.updates.0
    c.set_newest.ensures.pages revisions kept)

-- The parent stands behind the pages that come before its path.
use Rattle.std.proofs.Common.{◌≡◌, ◌∙◌, ℕ, Option, None, IsSome, sym, ap, subst, rules}
use Rattle.step_path.specs.Path.{steps_of}
use Rattle.page_store.specs.PageRows.{RowList, parent_id}
use Rattle.page_store.specs.Pages.{ArePages}
use Rattle.page_store.proofs.SeenLemmas.{parent_at, steps_of_kid}
use Rattle.page_store.proofs.rows.Rows.parent_of.Goals as goal

-- nothing is not something
none_is_not_some : (o : Option ℕ) → o ≡ None → IsSome o → ⊥
none_is_not_some o none some = let h = subst IsSome none some in search rules

pub above_text-above-requires-clause-below : goal.above_text-above-requires-clause-below
above_text-above-requires-clause-below c =
    steps_of_kid (steps_of c.args.path.now) _ c.self.invariant.are_pages.paths
    (subst (λ (v : RowList). IsSome (parent_id (steps_of c.args.path.now) v.pages)) (sym
    c.self.view_is) c.requires.there)

pub unreachable-requires : goal.unreachable-requires
unreachable-requires c =
    let are = subst (λ (v : RowList). ArePages v.pages) c.self.view_is c.self.invariant.are_pages in
    let text = ap steps_of c.as_slice.ensures.value ∙ c.above_text-above.ensures.steps in
    let found = parent_at (steps_of c.args.path.now) c.as_slice.result.now c.place_of-place.result
    c.args.self.now.pages are.in_order c.requires.there text c.place_of-place.ensures.place in
    none_is_not_some _ (found ∙ sym c.at.ensures ∙ c.in-None.is) c.requires.there

pub returns : goal.returns
returns c =
    let are = subst (λ (v : RowList). ArePages v.pages) c.self.view_is c.self.invariant.are_pages in
    let text = ap steps_of c.as_slice.ensures.value ∙ c.above_text-above.ensures.steps in
    let found = parent_at (steps_of c.args.path.now) c.as_slice.result.now c.place_of-place.result
    c.args.self.now.pages are.in_order c.requires.there text c.place_of-place.ensures.place in
    found ∙ sym c.at.ensures ∙ c.in-Some.is

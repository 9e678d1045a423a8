-- The page stands behind the pages that come before its path, and its subtree behind it.
use Rattle.std.proofs.Common.{◌≡◌, ◌∙◌, ℕ, Some, nat_eq, List, sym, ap, subst}
use Rattle.std.specs.Option.{option_map}
use Rattle.std.specs.Map.{lookup}
use Rattle.page_tree.specs.Rows.{comes_before, row_with}
use Rattle.step_path.specs.Path.{steps_of, IsPathText}
use Rattle.page_store.specs.declared.stored.StoredRow.{StoredRow}
use Rattle.page_store.specs.PageRows.{RowList}
use Rattle.page_store.specs.Pages.{Page, ArePages}
use Rattle.page_store.specs.Kept.{seen}
use Rattle.page_store.specs.Search.{HaveTexts, leading}
use Rattle.page_store.proofs.RangeLemmas.{range_is, own_place, within_from_get}
use Rattle.page_store.proofs.rows.Rows.range_of.Goals as goal

-- a row that is found has the text of a path
kept_text : (stored : List (ℕ × StoredRow)) (id : ℕ) (page : StoredRow) (text : List ℕ) →
    HaveTexts stored → Some page ≡ lookup (nat_eq id) stored → text ≡ page.row.path →
    IsPathText text
kept_text stored id page text all is same = rw same (let own = all id in (rw (← is) at own).path_is)

-- the place by the row's path
place_by_path : (text path : List ℕ) (pages : List Page) (n : ℕ) → text ≡ path →
    n ≡ leading (λ row. comes_before row.path (steps_of text)) pages →
    n ≡ leading (λ row. comes_before row.path (steps_of path)) pages
place_by_path text path pages n same h = rw (← same) h

pub place_of-place-requires : goal.place_of-place-requires
place_of-place-requires c =
    kept_text _ c.args.id _ _ c.self.invariant.texts c.in-Some.ensures.value c.as_slice.ensures.value

pub end_of-requires : goal.end_of-requires
end_of-requires c =
    let page = c.in-Some.page.now in
    let are = subst (λ (v : RowList). ArePages v.pages) c.self.view_is c.self.invariant.are_pages in
    let found = subst (λ (v : RowList). row_with c.args.id v.pages ≡ Some (seen page))
    c.self.view_is (c.self.invariant.found c.args.id ∙ sym (ap (option_map seen)
    c.in-Some.ensures.value)) in
    let place = place_by_path _ page.row.path _ _ c.as_slice.ensures.value c.place_of-place.ensures.place in
    within_from_get c.args.self.now.pages c.place_of-place.result (seen page) (rw place (own_place
    (λ (r : Page). nat_eq r.id c.args.id) c.args.self.now.pages (seen page) are.in_order found))

pub returns-clause-range : goal.returns-clause-range
returns-clause-range c =
    let page = c.in-Some.page.now in
    let are = subst (λ (v : RowList). ArePages v.pages) c.self.view_is c.self.invariant.are_pages in
    let found = subst (λ (v : RowList). row_with c.args.id v.pages ≡ Some (seen page))
    c.self.view_is (c.self.invariant.found c.args.id ∙ sym (ap (option_map seen)
    c.in-Some.ensures.value)) in
    let place = place_by_path _ page.row.path _ _ c.as_slice.ensures.value c.place_of-place.ensures.place in
    range_is c.args.self.now.pages c.args.id c.place_of-place.result c.end_of.result (seen page)
    are.in_order found place c.end_of.ensures.end c.end_of.ensures.within

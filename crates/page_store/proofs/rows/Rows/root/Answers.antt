-- One page is kept, in an order of one.
use Rattle.std.proofs.Common.{◌≡◌, ◌∙◌, ℕ, nat_eq, List, [], ◌∷◌, ◌++◌, refl, sym, subst}
use Rattle.indexmap.specs.IndexMap.{insert_entry}
use Rattle.page_store.specs.declared.stored.StoredRow.{StoredRow}
use Rattle.page_store.specs.PageRows.{root_rows}
use Rattle.page_store.specs.Pages.{Page}
use Rattle.page_store.specs.Kept.{IsKept}
use Rattle.page_store.proofs.SeenLemmas.{rows_seen-kept}
use Rattle.page_store.proofs.RootLemmas.{root_kept}
use Rattle.page_store.proofs.rows.Rows.root.Goals as goal

-- a first page of an empty map
first_entry : (stored later : List (ℕ × StoredRow)) (id : ℕ) (page : StoredRow) → stored ≡ [] →
    id ≡ 1 → later ≡ insert_entry nat_eq stored id page → later ≡ (1, page) ∷ []
first_entry stored later id page none one h = h ∙ rw (none, one) refl

-- a first id of an empty order
first_id : (order later : List ℕ) (id : ℕ) → order ≡ [] → id ≡ 1 → later ≡ order ++ id ∷ [] → later ≡ 1 ∷ []
first_id order later id none one h = h ∙ rw (none, one) refl

-- what is kept stands for the rows of a new tree
kept_root : (c : goal.After-new) →
    IsKept c.insert.new.self.entries c.push.new.self.items c.new.result root_rows
kept_root c =
    let entries = first_entry _ _ _ c.in_ok-page.page c.new-stored.ensures.empty c.root.ensures
    c.in_ok-insert.ensures.entries in
    let items = first_id _ _ _ c.new-order.ensures.items c.root-2.ensures c.in_ok-push.ensures.items in
    rw (entries, items) (root_kept c.in_ok-page.page c.new.result c.in_ok-page.ensures c.new.ensures.keys
    c.new.ensures.clashes)

pub invariant_of-result : goal.invariant_of-result
invariant_of-result c =
    let kept = kept_root c in
    subst (λ (rows : List Page). IsKept c.insert.new.self.entries c.push.new.self.items
    c.new.result rows) (sym (rows_seen-kept _ _ _ _ kept)) kept

pub returns : goal.returns
returns c = rows_seen-kept _ _ _ _ (kept_root c)

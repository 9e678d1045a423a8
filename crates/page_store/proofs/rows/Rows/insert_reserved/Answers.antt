-- A new row put into each of the three that the store keeps.
use Rattle.std.proofs.Common.{◌≡◌, ◌∙◌, ℕ, nat_eq, List, Option, Some, None, false, ap, sym, subst}
use Rattle.page_tree.specs.Rows.{comes_before, with_row, row_with}
use Rattle.step_path.specs.Path.{steps_of}
use Rattle.std.specs.Map.{lookup}
use Rattle.site_types.specs.Ids.{IsPageId}
use Rattle.page_store.specs.declared.kid_index.KidIndex.{KidIndex}
use Rattle.page_store.specs.declared.kid_index.KidKey.{KidKey}
use Rattle.page_store.specs.declared.stored.StoredRow.{StoredRow}
use Rattle.page_store.specs.PageRows.{RowList, seen_row, parent_id, IsNewRow}
use Rattle.page_store.specs.Pages.{Page}
use Rattle.page_store.specs.Kept.{seen, rows_seen, IsKept}
use Rattle.page_store.specs.KidIndex.{kid_key, own_key, keys_of, with_key, IsIndex}
use Rattle.page_store.proofs.AddLemmas.{none_from_map}
use Rattle.page_store.specs.Search.{leading}
use Rattle.page_store.proofs.SeenLemmas.{few_kids, rows_seen-kept}
use Rattle.page_store.proofs.KeptLemmas.{insert_kept}
use Rattle.page_store.proofs.rows.Rows.insert_reserved.Goals as goal

-- the parent by the path itself
parent_by_path : (text path : List ℕ) (value seen : RowList) (p : ℕ) → text ≡ path → seen ≡ value →
    parent_id (steps_of text) value.pages ≡ Some p → parent_id (steps_of path) seen.pages ≡ Some p
parent_by_path text path value seen p same is h = rw (is, ← same) h

-- the place by the path itself
place_by_path : (text path : List ℕ) (value seen : RowList) (n : ℕ) → text ≡ path → seen ≡ value →
    n ≡ leading (λ row. comes_before row.path (steps_of text)) value.pages →
    n ≡ leading (λ row. comes_before row.path (steps_of path)) seen.pages
place_by_path text path value seen n same is h = rw (is, ← same) h

-- the index with the new page, by the key of its slug
index_then : (stored : List (ℕ × StoredRow)) (order : List ℕ) (kids more : KidIndex) (pages : List
    Page) (id p : ℕ) (slug : List ℕ) (key : KidKey) → IsKept stored order kids pages →
    row_with id pages ≡ None → key ≡ kid_key p slug →
    ((keys : ℕ → Option KidKey) → IsIndex kids keys → keys id ≡ None →
    IsIndex more (with_key id key keys)) →
    IsIndex more (with_key id (kid_key p slug) (keys_of stored))
index_then stored order kids more pages id p slug key kept new is adds =
    subst (λ (k : KidKey). IsIndex more (with_key id k (keys_of stored))) is (adds (keys_of stored)
    kept.indexed (ap own_key (none_from_map seen (lookup (nat_eq id) stored) (sym (kept.found id) ∙
    new))))

-- what the store keeps then stands for all rows
kept_then : (c : goal.After-put_at) →
    IsKept c.put.new.map.entries c.put_at.new.order.items c.add.new.self (with_row
    (seen_row c.args.row (Some c.parent_of-parent.result) c.args.url) (rows_seen
    c.self.inside.stored.entries c.self.inside.order.items))
kept_then c =
    let p = c.parent_of-parent.result in
    let new : StoredRow = record {
      row = c.args.row;
      url = c.args.url;
      parent = c.page.result;
      counted = false;
    } in
    let is = subst (λ (v : RowList). IsNewRow v.pages c.args.row) (sym c.self.view_is) c.requires.new in
    let found = parent_by_path _ c.args.row.path _ _ p c.as_slice.ensures.value c.self.view_is
    c.parent_of-parent.ensures in
    let place = place_by_path _ c.args.row.path _ _ _ c.as_slice-2.ensures.value c.self.view_is
    c.place_of-place.ensures.place in
    let fits = subst IsPageId c.get-number.ensures.value c.get-number.ensures.range in
    let index = index_then _ _ c.self.inside.kids c.add.new.self _ c.args.row.id p c.args.row.slug _
    c.self.invariant is.new_id c.key_of_kid-key.ensures c.add.ensures.added in
    rw (c.put_at.ensures.items, place)
    (insert_kept _ _ _ _ c.self.inside.kids c.add.new.self _ new p c.self.invariant is found
    c.page.ensures fits (λ i. false) c.add_kid.ensures.others c.put.ensures.updates.0 index)

pub add_kid-requires : goal.add_kid-requires
add_kid-requires c = few_kids _ _ _ _ c.self.invariant c.parent_of-parent.result

pub invariant_of-self : goal.invariant_of-self
invariant_of-self c =
    let kept = kept_then c in
    subst (λ (rows : List Page). IsKept c.put.new.map.entries c.put_at.new.order.items
    c.add.new.self rows) (sym (rows_seen-kept _ _ _ _ kept)) kept

pub returns-clause-pages : goal.returns-clause-pages
returns-clause-pages c =
    let found = parent_by_path _ c.args.row.path _ _ c.parent_of-parent.result
    c.as_slice.ensures.value (λ i. c.args.self.now) c.parent_of-parent.ensures in
    let seen = subst (λ (v : RowList). rows_seen c.put.new.map.entries c.put_at.new.order.items ≡
    with_row (seen_row c.args.row (Some c.parent_of-parent.result) c.args.url) v.pages)
    c.self.view_is (rows_seen-kept _ _ _ _ (kept_then c)) in
    rw found seen

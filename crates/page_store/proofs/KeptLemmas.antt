-- A new page put into what the store keeps.
use Rattle.std.proofs.Common.{◌≡◌, ℕ, Bool, true, false, cond, nat_eq, List, [], ◌∷◌, Option, Some, None, map, find, insert, refl, ap, sym, subst, ◌∙◌, arith, add-one}
use Rattle.std.proofs.lemmas.Bool.Decides.{nat_tests}
use Rattle.std.specs.List.{AllByRecursion}
use Rattle.std.specs.Option.{option_map, IfSome}
use Rattle.std.specs.Map.{lookup}
use Rattle.page_tree.specs.Rows.{comes_before, insert_in_order, raise_count, with_kid, with_row, is_parent, row_with}
use Rattle.step_path.specs.Path.{steps_of}
use Rattle.site_types.specs.Ids.{IsPageId}
use Rattle.page_store.specs.PageRows.{seen_row, parent_id, IsNewRow}
use Rattle.page_store.specs.declared.stored.StoredRow.{StoredRow}
use Rattle.page_store.specs.declared.kid_index.KidIndex.{KidIndex}
use Rattle.page_store.specs.Pages.{Page}
use Rattle.page_store.specs.Kept.{seen, kid_added, IsStored, IsKept}
use Rattle.page_store.specs.KidIndex.{kid_key, own_key, keys_of, with_key, IsIndex}
use Rattle.page_store.specs.Search.{leading}
use Rattle.page_store.proofs.PathOrder.{comes_before-not_back, comes_before-other}
use Rattle.page_store.proofs.AllLemmas.{All-raise_count, raised}
use Rattle.page_store.proofs.InsertLemmas.{other_ids, all_fail_from_find, find-raise_count, find-insert_fails, find-insert_passes}
use Rattle.page_store.proofs.KidIndexLemmas.{indexed_as}
use Rattle.page_store.proofs.KeyLemmas.{key_below}
use Rattle.page_store.proofs.AddLemmas.{CanBeAdded, parent_is_page, raised-id, are_pages-with_row}

-- a raised count leaves the path
raised-path : (parent : Option ℕ) (row : Page) → (raised parent row).path ≡ row.path
raised-path parent row = by (is_parent row.id parent)
  where
    by : (t : Bool) → (let out : Page = cond t (with_kid row) row in out.path) ≡ row.path
    by true = refl
    by false = refl

-- the new id stands behind the ids of the rows that come before it
ids_inserted : (new : Page) (parent : Option ℕ) (rows : List Page) →
    AllByRecursion (λ row. row.path ≡ new.path → ⊥) rows →
    map (λ (row : Page). row.id) (insert_in_order new (raise_count parent rows)) ≡ insert (map (λ
    (row : Page). row.id) rows) (leading (λ row. comes_before row.path new.path) rows) new.id
ids_inserted new parent [] differ = refl
ids_inserted new parent (row ∷ rows) differ =
    by (comes_before row.path new.path) refl (ids_inserted new parent rows differ.1)
  where
    by : (t : Bool) → comes_before row.path new.path ≡ t →
        map (λ (row : Page). row.id) (insert_in_order new (raise_count parent rows)) ≡ insert (map
        (λ (row : Page). row.id) rows) (leading (λ row. comes_before row.path new.path) rows) new.id
        → map (λ (row : Page). row.id) (insert_in_order new (raised parent row ∷ raise_count parent
        rows)) ≡ insert (row.id ∷ map (λ (row : Page). row.id) rows) (leading (λ row. comes_before
        row.path new.path) (row ∷ rows)) new.id
    by true e more =
        let back : comes_before new.path (raised parent row).path ≡ false =
        rw (raised-path parent row) (comes_before-not_back row.path new.path e) in
        rw (back, e, add-one (leading (λ row. comes_before row.path new.path) rows)) (rw (raised-id
        parent row) (ap (λ ids. row.id ∷ ids) more))
    by false e more =
        let front : comes_before new.path (raised parent row).path ≡ true =
        rw (raised-path parent row) (comes_before-other row.path new.path differ.0 e) in
        rw (front, e) (rw (raised-id parent row) (ap (λ ids. new.id ∷ row.id ∷ ids) (kept_ids rows)))
      where
        kept_ids : (rows : List Page) →
            map (λ (row : Page). row.id) (raise_count parent rows) ≡ map (λ (row : Page). row.id)
            rows
        kept_ids [] = refl
        kept_ids (row ∷ rows) = rw (raised-id parent row) (ap (λ ids. row.id ∷ ids) (kept_ids rows))

-- what is found passes the test
pub found_passes : {X : Type 0} (test : X → Bool) (xs : List X) (x : X) → find test xs ≡ Some x →
    test x ≡ true
found_passes test [] x h = cc
found_passes test (y ∷ xs) x h = by (test y) refl h (found_passes test xs x)
  where
    by : (t : Bool) → test y ≡ t → cond t (Some y) (find test xs) ≡ Some x →
        (find test xs ≡ Some x → test x ≡ true) → test x ≡ true
    by true e h more = let one : y ≡ x = cc in rw (← one) e
    by false e h more = more h

module _ (stored : List (ℕ × StoredRow)) (order : List ℕ) (kids : KidIndex) (pages : List Page)
    (kept : IsKept stored order kids pages) where
  -- what is kept at an id has that id
  pub own_id : (id : ℕ) (page : StoredRow) → lookup (nat_eq id) stored ≡ Some page → page.row.id ≡ id
  own_id id page is =
      let test : nat_eq page.row.id id ≡ true =
      found_passes (λ (row : Page). nat_eq row.id id) pages (seen page) (kept.found id ∙ ap
      (option_map seen) is) in
      grind (arith, nat_tests)

  -- what is kept of pages with a raised count
  raised_kept : (p id : ℕ) (parent : StoredRow) → lookup (nat_eq p) stored ≡ Some parent →
      option_map (raised (Some p)) (option_map seen (lookup (nat_eq id) stored)) ≡ option_map seen
      (cond (nat_eq p id) (Some (kid_added parent)) (lookup (nat_eq id) stored))
  raised_kept p id parent is = by (nat_eq p id) refl (lookup (nat_eq id) stored) refl
    where
      by : (t : Bool) → nat_eq p id ≡ t → (o : Option StoredRow) → lookup (nat_eq id) stored ≡ o →
          option_map (raised (Some p)) (option_map seen o) ≡ option_map seen (cond t (Some
          (kid_added parent)) o)
      by true e o h =
          let same : p ≡ id = grind (arith, nat_tests) in
          let found : o ≡ Some parent = sym h ∙ rw (← same) is in
          let own = own_id p parent is in
          let self : nat_eq p parent.row.id ≡ true = grind (arith, nat_tests) in
          rw found (rw self refl)
      by false e None h = refl
      by false e (Some page) h =
          let own = own_id id page h in
          let differ : nat_eq p page.row.id ≡ false = rw own e in
          rw differ refl

module _ (stored later : List (ℕ × StoredRow)) (order : List ℕ) (kids more_kids : KidIndex)
    (pages : List Page) (new parent : StoredRow) (p : ℕ)
    (kept : IsKept stored order kids pages) (can : CanBeAdded pages (seen new) p) (text : IsStored new)
    (found_parent : lookup (nat_eq p) stored ≡ Some parent)
    (stores : (id : ℕ) → lookup (nat_eq id) later ≡ cond (nat_eq new.row.id id) (Some new) (cond
    (nat_eq p id) (Some (kid_added parent)) (lookup (nat_eq id) stored)))
    (indexes : IsIndex more_kids (with_key new.row.id (kid_key p new.row.slug) (keys_of stored))) where
  -- all pages
  abbrev all : List Page
  all = with_row (seen new) pages

  -- each page is found by its id
  all_found : (id : ℕ) → row_with id all ≡ option_map seen (lookup (nat_eq id) later)
  all_found id = rw (stores id) (by (nat_eq new.row.id id) refl)
    where
      by : (t : Bool) → nat_eq new.row.id id ≡ t →
          row_with id all ≡ option_map seen (cond t (Some new) (cond (nat_eq p id) (Some (kid_added
          parent)) (lookup (nat_eq id) stored)))
      by true e =
          let same : new.row.id ≡ id = grind (arith, nat_tests) in
          let none : row_with id pages ≡ None = rw (← same) can.new_id in
          find-insert_passes (λ (row : Page). nat_eq row.id id) (λ row. refl) (seen new)
          (raise_count new.parent pages) e
          (All-raise_count (λ row. nat_eq row.id id ≡ false) new.parent (λ row h. h) pages
          (all_fail_from_find (λ (row : Page). nat_eq row.id id) pages none))
      by false e =
          find-insert_fails (λ (row : Page). nat_eq row.id id) (λ row. refl) (seen new) (raise_count
          new.parent pages) e
          ∙ find-raise_count (λ (row : Page). nat_eq row.id id) (λ row. refl) new.parent pages
          ∙ rw (can.parent_is, kept.found id) (raised_kept stored order kids pages kept p id parent
          found_parent)

  -- each row that is kept has the text of a path
  all_texts : (id : ℕ) → IfSome (lookup (nat_eq id) later) IsStored
  all_texts id = rw (stores id) (by (nat_eq new.row.id id) (nat_eq p id))
    where
      by : (t u : Bool) → IfSome (cond t (Some new) (cond u (Some (kid_added parent)) (lookup
          (nat_eq id) stored))) IsStored
      by true u = text
      by false true = let h = kept.texts p in let own : IsStored parent = rw found_parent at h in
          record { path_is = own.path_is; depth_is = own.depth_is; not_counted = own.not_counted }
      by false false = kept.texts id

  -- each page has the key that it had, and the new one its own
  all_keys : (id : ℕ) →
      keys_of later id ≡ with_key new.row.id (kid_key p new.row.slug) (keys_of stored) id
  all_keys id = ap own_key (stores id) ∙ by (nat_eq new.row.id id) (nat_eq p id) refl
    where
      by : (t u : Bool) → nat_eq p id ≡ u →
          own_key (cond t (Some new) (cond u (Some (kid_added parent)) (lookup (nat_eq id) stored))) ≡
          cond t (Some (kid_key p new.row.slug)) (keys_of stored id)
      by true u e = key_below new p can.parent_is
      by false true e =
          let same : p ≡ id = grind (arith, nat_tests) in
          sym (ap own_key found_parent) ∙ ap (keys_of stored) same
      by false false e = refl

  -- what is kept then stands for all pages
  pub kept-with_row : IsKept later (insert order (leading (λ row. comes_before row.path (seen
      new).path) pages) new.row.id) more_kids all
  kept-with_row = record {
    ids = ids_inserted (seen new) new.parent pages can.new_path ∙ rw kept.ids refl;
    found = all_found;
    texts = all_texts;
    indexed = indexed_as _ _ _ (keys_of later) all_keys indexes;
    are_pages = are_pages-with_row pages (seen new) p kept.are_pages can;
  }

-- A new row below its parent: what the store keeps after the parent's count is raised and the row,
-- its slug and its place are put in.
pub insert_kept : (stored mid later : List (ℕ
    × StoredRow)) (order : List ℕ) (kids more_kids : KidIndex) (pages : List Page) (new : StoredRow) (p : ℕ)
    → IsKept stored order kids pages → IsNewRow pages new.row →
    parent_id (steps_of new.row.path) pages ≡ Some p → new.parent ≡ Some p → IsPageId new.row.id →
    new.counted ≡ false
    → ((id : ℕ) → lookup (nat_eq id) mid ≡ cond (nat_eq p id) (option_map kid_added (lookup (nat_eq
    p) stored)) (lookup (nat_eq id) stored))
    → ((id : ℕ) → lookup (nat_eq id) later ≡ cond (nat_eq new.row.id id) (Some new) (lookup (nat_eq id) mid))
    → IsIndex more_kids (with_key new.row.id (kid_key p new.row.slug) (keys_of stored))
    → IsKept later (insert order (leading (λ row. comes_before row.path (steps_of new.row.path))
    pages) new.row.id) more_kids (with_row (seen_row new.row (Some p) new.url) pages)
insert_kept stored mid later order kids more_kids pages new p kept is found parent fits fresh raises
    stores indexes =
    subst (λ (above : Option ℕ). IsKept later (insert order (leading (λ row. comes_before row.path
    (steps_of new.row.path)) pages) new.row.id) more_kids (with_row (seen_row new.row above new.url)
    pages)) parent (by (lookup (nat_eq p) stored) refl)
  where
    can : CanBeAdded pages (seen new) p
    can = record {
      path_is = is.path_is.path;
      id_fits = fits;
      new_id = is.new_id;
      new_path = is.new_path;
      parent_is = parent;
      found_parent = found;
      free_slug = rw found at is.free_slug;
      childless = is.childless;
    }

    by : (o : Option StoredRow) → lookup (nat_eq p) stored ≡ o →
        IsKept later (insert order (leading (λ row. comes_before row.path (steps_of new.row.path))
        pages) new.row.id) more_kids (with_row (seen new) pages)
    by None e =
        let none : row_with p pages ≡ None = kept.found p ∙ ap (option_map seen) e in
        absurd (parent_is_page (steps_of new.row.path) pages p p (other_ids p pages none) found refl)
    by (Some above) e =
        kept-with_row stored later order kids more_kids pages new above p kept can (record {
          path_is = is.path_is;
          depth_is = is.depth_is;
          not_counted = fresh;
        }) e
        (λ id. stores id ∙ ap (λ o. cond (nat_eq new.row.id id) (Some new) o) (raises id ∙ ap (λ o.
        cond (nat_eq p id) (option_map kid_added o) (lookup (nat_eq id) stored)) e)) indexes

-- A page that is made: its row may be put in, and the rows with it are those of the tree with it.
use Rattle.std.proofs.Common.{◌≡◌, ◌≤◌, ℕ, Bool, true, false, cond, ◌&&◌, List, [], ◌∷◌, ◌++◌, length, take, drop, find, Option, Some, None, is_some, Ok, Err, nat_eq, refl, sym, ap, subst, ◌∙◌, arith}
use Rattle.std.specs.List.{AllByRecursion}
use Rattle.std.specs.Option.{IfSome, option_map}
use Rattle.std.specs.Str.{bytes_eq}
use Rattle.std.proofs.lemmas.Bool.Decides.{nat_tests}
use Rattle.std.proofs.lemmas.List.{take-append-drop}
use Rattle.page_tree.specs.Tree.{Forest, bare, grown, End, AreRising, HasDistinctIds, has_page, kids_of, kid_with_slug, step_needed}
use Rattle.page_tree.specs.Walk.{path_of}
use Rattle.page_tree.specs.Rows.{rows_of, row_with, kid_named, child_url, raise_count, is_parent, with_kid, insert_in_order, with_row}
use Rattle.page_tree.proofs.RowLemmas.{has_page-rows, find-append}
use Rattle.page_tree.proofs.RowWalkLemmas.{rows_of-walk}
use Rattle.step_path.specs.Path.{IsPath, path_text, steps_of}
use Rattle.step_path.specs.declared.step.TheConstants.{LAST_STEP}
use Rattle.step_path.specs.declared.path.TheConstants.{MAX_DEPTH}
use Rattle.step_path.proofs.PathLemmas.{IsPathText-path_text, steps_of-path_text}
use Rattle.site_types.specs.declared.body.Body.{Body}
use Rattle.site_types.specs.declared.page_row.PageRow.{PageRow}
use Rattle.tree_model.specs.Shape.{IsWhole, AreWithin}
use Rattle.tree_model.specs.Limits.{height}
use Rattle.tree_model.specs.Changes.{url_in}
use Rattle.tree_model.proofs.CountLemmas.{none_counts, same_id}
use Rattle.page_store.specs.PageRows.{parent_id, seen_row, IsNewRow}
use Rattle.page_store.specs.Search.{begins}
use Rattle.page_store.specs.Pages.{Page, EachPair, IsBefore, ArePages}
use Rattle.page_store.proofs.AllLemmas.{All-weaker}
use Rattle.page_store.proofs.InsertLemmas.{find-raise_count}
use Rattle.page_store.proofs.SeenLemmas.{found_by_own_id, All-find}
use Rattle.page_copies.proofs.RowPlaces.{between, path_between, by_path, above_is}
use Rattle.path_moves.specs.Append.{appended_path}
use Rattle.tree_rows.specs.Cuts.{end_of}
use Rattle.path_moves.specs.Laws.{IsTree}
use Rattle.path_moves.proofs.ApplySlugs.{found_id}
use Rattle.path_moves.proofs.LawLemmas.{graft_is}
use Rattle.tree_rows.proofs.Lists.{EachPair-parts, all_parts}
use Rattle.path_moves.proofs.TreePages.{rows_in_order, rows_paths}
use Rattle.slug_urls.specs.Flat.{other_kid}
use Rattle.slug_urls.proofs.Taken.{taken_is}
use Rattle.new_pages.specs.Making.{with_page}
use Rattle.new_pages.proofs.CreationPlan.{without_absent}

-- what holds of the paths of rows holds of them without a count more
not_raised : (P : List ℕ → Type 0) (parent : Option ℕ) (rows : List Page) →
    AllByRecursion (λ (row : Page). P row.path) (raise_count parent rows) →
    AllByRecursion (λ (row : Page). P row.path) rows
not_raised P parent [] all = tt
not_raised P parent (row ∷ rows) all =
    (choice (is_parent row.id parent) all.0, not_raised P parent rows all.1)
  where
    choice : (t : Bool) → P (cond t (with_kid row) row).path → P row.path
    choice true p = p
    choice false p = p

-- the path that is told is the one that was built
built : {X : Type 0} (full room : Bool) (fault other : X) (path told : List ℕ) →
    cond full (Err fault) (cond room (Ok path) (Err other)) ≡ Ok told → path ≡ told
built true room fault other path told is = absurd (cc)
built false true fault other path told is = cc
built false false fault other path told is = absurd (cc)

-- a found row has the id
is_found : (o : Option Page) → is_some o ≡ true → (row : Page) × (o ≡ Some row)
is_found None is = absurd (cc)
is_found (Some row) is = (row, refl)

-- nothing is found where nothing is
none_found : (o : Option Page) → is_some o ≡ false → o ≡ None
none_found None is = refl
none_found (Some row) is = absurd (cc)

-- the first of two facts of each row
all_first : (P Q : Page → Type 0) (rows : List Page) →
    AllByRecursion (λ r. P r × Q r) rows → AllByRecursion P rows
all_first P Q [] all = tt
all_first P Q (row ∷ rows) all = (all.0.0, all_first P Q rows all.1)

module _ (tree : Forest Body) (are : ArePages (rows_of tree)) (is_tree : IsTree tree)
    (whole : IsWhole tree) (parent page : ℕ) (slug path url : List ℕ) (body : Body)
    (there : has_page parent tree ≡ true) (absent : has_page page tree ≡ false)
    (free : kid_with_slug slug (kids_of parent tree) ≡ None)
    (told : appended_path parent tree ≡ Ok path)
    (url_is : url ≡ child_url (url_in parent (rows_of tree)) slug)
    (late : AreRising 0 (with_page tree page parent slug body))
    (within : AreWithin LAST_STEP (with_page tree page parent slug body))
    (deep : height (with_page tree page parent slug body) ≤ MAX_DEPTH) where
  -- the parent's row
  above_row : (row : Page) × (row_with parent (rows_of tree) ≡ Some row)
  above_row = is_found (row_with parent (rows_of tree))
      (sym (has_page-rows parent None [] [] tree) ∙ there)

  abbrev top : Page
  top = above_row.0

  -- the path to the parent
  path_above : path_of parent tree ≡ top.path
  path_above =
      let walked : AllByRecursion (λ (r : Page). path_of r.id tree ≡ r.path) (rows_of tree) =
      subst (λ t. HasDistinctIds t → AllByRecursion (λ (r : Page). path_of r.id t ≡ r.path)
      (rows_of t)) (sym whole.is)
      (λ distinct. all_first (λ (r : Page). path_of r.id (grown 1 1 [] whole.own whole.kids bare) ≡ r.path)
      (λ (r : Page). Rattle.page_tree.specs.Walk.url_of r.id (grown 1 1 [] whole.own whole.kids bare) ≡ r.url)
      (rows_of (grown 1 1 [] whole.own whole.kids bare)) (rows_of-walk whole.own whole.kids distinct))
      is_tree.distinct in
      subst (λ id. path_of id tree ≡ top.path)
      (found_id parent (rows_of tree) top above_row.1)
      (All-find (λ (r : Page). path_of r.id tree ≡ r.path) (λ (r : Page). nat_eq r.id parent)
      (rows_of tree) top walked above_row.1)

  -- the step of the new page
  abbrev step : ℕ
  step = step_needed End (kids_of parent tree)

  -- its path
  path_is : path ≡ top.path ++ step ∷ []
  path_is = sym (built _ _ _ _ _ path told) ∙ ap (λ p. p ++ step ∷ []) path_above

  -- its row
  abbrev new : Page
  new = record {
    id = page;
    parent = Some parent;
    path = top.path ++ step ∷ [];
    url = child_url top.url slug;
    slug = slug;
    numchild = 0;
    body = body;
  }

  -- the rows with the parent's count one higher, and those before the new one and behind it
  abbrev raised : List Page
  raised = raise_count (Some parent) (rows_of tree)

  abbrev front : List Page
  front = take (end_of top.path raised) raised

  abbrev behind : List Page
  behind = drop (end_of top.path raised) raised

  -- the rows after the creation
  rows_after : rows_of (with_page tree page parent slug body) ≡ front ++ new ∷ behind
  rows_after = graft_is parent page 1 slug body bare tree top is_tree above_row.1

  -- they are in order
  in_order : EachPair IsBefore front × EachPair IsBefore (new ∷ behind)
      × AllByRecursion (λ (x : Page). AllByRecursion (IsBefore x) (new ∷ behind)) front
  in_order =
      EachPair-parts IsBefore front (new ∷ behind)
      (subst (EachPair IsBefore) rows_after
      (rows_in_order None [] [] 0 (with_page tree page parent slug body) late))

  -- those before the new one come before it
  behind_front : AllByRecursion (λ (x : Page). IsBefore x new) front
  behind_front =
      All-weaker (λ (x : Page). AllByRecursion (IsBefore x) (new ∷ behind))
      (λ (x : Page). IsBefore x new) (λ x all. all.0) front in_order.2

  -- the parts are the rows
  both_parts : front ++ behind ≡ raised
  both_parts = take-append-drop (end_of top.path raised) raised

  -- with the new row they are those of the tree with the page
  inserted : insert_in_order new raised ≡ rows_of (with_page tree page parent slug body)
  inserted =
      ap (insert_in_order new) (sym both_parts)
      ∙ (between new front behind behind_front in_order.1.0 ∙ sym rows_after)

  -- the new path is a path
  is_path : IsPath path
  is_path =
      let all = rows_paths None [] [] 0 (with_page tree page parent slug body) tt late within
      (omega (arith, deep)) in
      let parts = all_parts (λ (row : Page). IsPath row.path) front (new ∷ behind)
      (subst (AllByRecursion (λ (row : Page). IsPath row.path)) rows_after all) in
      subst IsPath (sym path_is) parts.1.0

  -- its text reads back
  reads : steps_of (path_text path) ≡ path
  reads = steps_of-path_text path is_path.steps

  -- the page above it is the parent
  parent_found : parent_id path (rows_of tree) ≡ Some parent
  parent_found =
      ap (λ p. parent_id p (rows_of tree)) path_is
      ∙ (ap (λ p. option_map (λ (r : Page). r.id)
      (find (λ (row : Page). bytes_eq row.path p) (rows_of tree))) (above_is top.path step)
      ∙ (ap (option_map (λ (r : Page). r.id))
      (by_path parent top (rows_of tree) are.in_order above_row.1)
      ∙ ap Some (found_id parent (rows_of tree) top above_row.1)))

  -- no row has the new path
  path_free : AllByRecursion (λ (row : Page). row.path ≡ path → ⊥) (rows_of tree)
  path_free =
      not_raised (λ p. p ≡ path → ⊥) (Some parent) (rows_of tree)
      (subst (AllByRecursion (λ (row : Page). row.path ≡ path → ⊥)) both_parts
      (subst (λ p. AllByRecursion (λ (row : Page). row.path ≡ p → ⊥) (front ++ behind))
      (sym path_is) (path_between new front behind behind_front in_order.1.0)))

  -- no row has the new id
  id_free : row_with page (rows_of tree) ≡ None
  id_free = none_found (row_with page (rows_of tree))
      (sym (has_page-rows page None [] [] tree) ∙ absent)

  -- no kid of the parent has the slug
  slug_free : kid_named parent slug (rows_of tree) ≡ None
  slug_free =
      let same = without_absent page tree (none_counts page tree absent) in
      let outside : IfSome (row_with page (rows_of tree)) (λ row. IfSome (row_with parent (rows_of tree))
      (λ other. begins row.path other.path ≡ false)) = rw id_free tt in
      let taken = taken_is tree page parent slug are
      (sym (has_page-rows parent None [] [] tree) ∙ there) outside in
      inner (find (λ (row : Page). is_parent parent row.parent && bytes_eq row.slug slug)
      (rows_of tree)) refl
      (sym (ap (λ t. kid_with_slug slug (kids_of parent t)) same ∙ free) ∙ taken)
    where
      inner : (o : Option Page) →
          find (λ (row : Page). is_parent parent row.parent && bytes_eq row.slug slug)
          (rows_of tree) ≡ o →
          None ≡ other_kid page (option_map (λ (r : Page). r.id) o) →
          option_map (λ (r : Page). r.id) o ≡ None
      inner None e is = refl
      inner (Some row) e is =
          let own = All-find (λ (r : Page). row_with r.id (rows_of tree) ≡ Some r)
          (λ (r : Page). is_parent parent r.parent && bytes_eq r.slug slug) (rows_of tree) row
          (found_by_own_id (rows_of tree) are.own_ids) e in
          by (nat_eq row.id page) refl own is
        where
          by : (t : Bool) → nat_eq row.id page ≡ t → row_with row.id (rows_of tree) ≡ Some row →
              None ≡ cond t None (Some row.id) → Some row.id ≡ None
          by true k own is =
              let one : row.id ≡ page = grind (arith, nat_tests) in
              let some : None ≡ Some row =
              sym id_free ∙ (ap (λ n. row_with n (rows_of tree)) (sym one) ∙ own) in
              absurd (cc)
          by false k own is = absurd (cc)

  -- the row that is put in
  abbrev own_row : PageRow
  own_row = record {
    id = page;
    path = path_text path;
    depth = length path;
    numchild = 0;
    slug = slug;
    body = body;
  }

  -- it may be put in
  pub row_fits : IsNewRow (rows_of tree) own_row
  row_fits = record {
    path_is = IsPathText-path_text path is_path;
    depth_is = ap length (sym reads);
    childless = refl;
    new_id = id_free;
    new_path = subst (λ p. AllByRecursion (λ (row : Page). row.path ≡ p → ⊥) (rows_of tree))
        (sym reads) path_free;
    has_parent = rw (reads, parent_found) refl;
    free_slug = rw (reads, parent_found) slug_free;
  }

  -- the URL is the parent's with the slug
  url_above : url ≡ child_url top.url slug
  url_above = url_is ∙ rw above_row.1 refl

  -- the rows with it are those of the tree with the page
  pub rows_with : with_row (seen_row own_row (parent_id (steps_of (path_text path)) (rows_of tree)) url)
      (rows_of tree) ≡ rows_of (with_page tree page parent slug body)
  rows_with =
      rw (reads, parent_found, url_above)
      (ap (λ p. insert_in_order (record {
        id = page;
        parent = Some parent;
        path = p;
        url = child_url top.url slug;
        slug = slug;
        numchild = 0;
        body = body;
      }) raised) path_is ∙ inserted)

  -- the new page's row is among them
  pub own_found : row_with page (rows_of (with_page tree page parent slug body))
      ≡ Some (record {
        id = page;
        parent = Some parent;
        path = path;
        url = url;
        slug = slug;
        numchild = 0;
        body = body;
      })
  own_found =
      ap (row_with page) rows_after
      ∙ (skip front (none_in front behind (ap (row_with page) both_parts
      ∙ raised_free (rows_of tree) id_free))
      ∙ (at_front ∙ (ap (λ p. Some (row_at p (child_url top.url slug))) (sym path_is)
      ∙ ap (λ u. Some (row_at path u)) (sym url_above))))
    where
      row_at : List ℕ → List ℕ → Page
      row_at p u = record {
        id = page;
        parent = Some parent;
        path = p;
        url = u;
        slug = slug;
        numchild = 0;
        body = body;
      }

      at_front : row_with page (new ∷ behind) ≡ Some new
      at_front = rw (same_id page) refl

      skip : (xs : List Page) → row_with page xs ≡ None →
          row_with page (xs ++ new ∷ behind) ≡ row_with page (new ∷ behind)
      skip xs none = rw (find-append (λ (row : Page). nat_eq row.id page) xs (new ∷ behind), none) refl

      none_in : (xs ys : List Page) → row_with page (xs ++ ys) ≡ None → row_with page xs ≡ None
      none_in xs ys none =
          first_none (row_with page xs) (row_with page ys)
          (sym (find-append (λ (row : Page). nat_eq row.id page) xs ys) ∙ none)
        where
          first_none : (a b : Option Page) → cond (is_some a) a b ≡ None → a ≡ None
          first_none None b is = refl
          first_none (Some row) b is = is

      raised_free : (rows : List Page) → row_with page rows ≡ None →
          row_with page (raise_count (Some parent) rows) ≡ None
      raised_free rows none =
          find-raise_count (λ (row : Page). nat_eq row.id page) (λ row. refl) (Some parent) rows
          ∙ ap (option_map (Rattle.page_store.proofs.AllLemmas.raised (Some parent))) none

-- What the calls find in the rows, as far as the tree of the rows goes.
use Rattle.std.proofs.Common.{◌≡◌, ℕ, suc, ◌+◌, ◌-◌, ◌<◌, ◌≤◌, Bool, true, false, cond, nat_eq, ◌||◌, List, [], ◌∷◌, ◌++◌, Option, Some, None, IsSome, is_some, map, find, filter, length, take, drop, slice_get, refl, ap, sym, ◌∙◌, subst, arith, rules, add-one}
use Prim.Native.Nat.{zero}
use Rattle.std.specs.Option.{option_map, IfSome}
use Rattle.std.proofs.lemmas.List.{append-nil, map-append}
use Rattle.page_tree.specs.Tree.{Forest, bare, grown, has_page, node_of, kids_of, ids_of, or_else}
use Rattle.page_tree.specs.Walk.{path_of}
use Rattle.page_tree.specs.Rows.{Row, rows_below, rows_of, row_with, child_url}
use Rattle.page_tree.proofs.RowLemmas.{has_page-rows}
use Rattle.step_path.specs.Path.{IsPath, IsPathText, path_text, steps_of}
use Rattle.step_path.proofs.PathLemmas.{IsPathText-path_text, steps_of-path_text}
use Rattle.site_types.specs.declared.body.Body.{Body}
use Rattle.site_types.specs.declared.page_row.PageRow.{PageRow}
use Rattle.page_store.specs.PageRows.{IsRange, page_row}
use Rattle.page_store.specs.Pages.{Page, ArePages}
use Rattle.page_store.specs.Search.{begins}
use Rattle.page_store.proofs.PathOrder.{begins-self}
use Rattle.page_store.proofs.SeenLemmas.{All-find}
use Rattle.page_store.proofs.WindowLemmas.{there_is}
use Rattle.tree_rows.specs.Subtree.{last_of, subtree_rows, step_after}
use Rattle.path_moves.specs.Append.{path_below, appended_path}
use Rattle.tree_rows.proofs.Lists.{slice_get-drop}
use Rattle.tree_rows.proofs.SubtreeLemmas.{range_rows, last_path_is, found_block, block_rows, step_after-last}
use Rattle.tree_rows.proofs.Lists.{take_one_more}

-- the row of a page keeps the text of its path
pub row_text : (pages : List Page) (id : ℕ) (kept : PageRow) (text : List ℕ) → ArePages pages →
    Some kept ≡ option_map page_row (row_with id pages) → text ≡ kept.path →
    IsPathText text × (option_map (λ (row : Page). row.path) (row_with id pages)
    ≡ Some (steps_of text))
row_text pages id kept text are is same = by (row_with id pages) refl is
  where
    by : (o : Option Page) → row_with id pages ≡ o → Some kept ≡ option_map page_row o →
        IsPathText text × (option_map (λ (row : Page). row.path) o ≡ Some (steps_of text))
    by None e is = absurd cc
    by (Some row) e is =
        let path = All-find (λ (r : Page). IsPath r.path) (λ (r : Page). nat_eq r.id id) pages row
        are.paths e in
        let one : kept ≡ page_row row = cc in
        let text_is : text ≡ path_text row.path = same ∙ ap (λ (r : PageRow). r.path) one in (
          rw text_is (IsPathText-path_text row.path path),
          rw (text_is, steps_of-path_text row.path path.steps) refl,
        )

-- the path of the last page of a range
pub last_found : (pages : List Page) (id place n last : ℕ) (row : Page) (path : Option (List ℕ)) →
    ArePages pages → IfSome (row_with id pages) (λ row. IsRange pages row place n) →
    Some last ≡ option_map (λ (other : Page). other.id) (slice_get pages (place + n - 1)) →
    path ≡ option_map (λ (other : Page). other.path) (row_with last pages) →
    row_with id pages ≡ Some row →
    path ≡ option_map (λ (other : Page). other.path) (last_of (subtree_rows row.path pages))
last_found pages id place n last row path are range found is one =
    let own = subst (λ (o : Option Page). IfSome o (λ row. IsRange pages row place n)) one range in
    is ∙ last_path_is pages row place n last are own (sym found)

-- where one element passes a test, the elements that pass have a last one
last_of_filter : {X : Type 0} (test : X → Bool) (xs : List X) (own : X → Bool) (x : X) →
    find own xs ≡ Some x →
    test x ≡ true → (y : X) × (last_of (filter test xs) ≡ Some y)
last_of_filter {X = X} test xs own x found passes =
    let long = some xs found in
    there_is (filter test xs) (length (filter test xs) - 1) (omega arith)
  where
    by : (ys : List X) (y : X) (own_y test_y : Bool) → own y ≡ own_y → test y ≡ test_y →
        cond own_y (Some y) (find own ys) ≡ Some x →
        (find own ys ≡ Some x → 0 < length (filter test ys)) →
        0 < length (cond test_y (y ∷ filter test ys) (filter test ys))
    by ys y own_y true e k found more = omega arith
    by ys y true false e k found more = let same : y ≡ x = cc in
        let both : test x ≡ false = ap test (sym same) ∙ k in absurd cc
    by ys y false false e k found more = more found

    some : (ys : List X) → find own ys ≡ Some x → 0 < length (filter test ys)
    some [] found = absurd cc
    some (y ∷ ys) found = by ys y (own y) (test y) refl refl found (some ys)

-- a page that is there has a last page of its subtree
pub has_last : (pages : List Page) (id : ℕ) (path : List ℕ) →
    Some path ≡ option_map (λ (row : Page). row.path) (row_with id pages) →
    ((row : Page) → row_with id pages ≡ Some row →
    None ≡ option_map (λ (last : Page). last.path) (last_of (subtree_rows row.path pages))) → ⊥
has_last pages id path found none = by (row_with id pages) refl found
  where
    by : (o : Option Page) → row_with id pages ≡ o →
        Some path ≡ option_map (λ (row : Page). row.path) o → ⊥
    by None e is = cc
    by (Some row) e is =
        let last = last_of_filter (λ (r : Page). begins row.path r.path) pages
        (λ (r : Page). nat_eq r.id id) row e (begins-self row.path) in
        let never = rw last.1 at (none row e) in cc

-- the path of an appended page, read off the rows
appended_is : (tree : Forest Body) (parent : ℕ) (row last : Page) → ArePages (rows_of tree) →
    row_with parent (rows_of tree) ≡ Some row →
    last_of (subtree_rows row.path (rows_of tree)) ≡ Some last →
    path_below row.path (step_after row.path last.path) ≡ appended_path parent tree
appended_is tree parent row last are found end =
    let block = found_block tree parent row are found in
    let b = block.0 in
    let rows = block_rows parent 0 None [] [] tree b in
    let last_is : last_of
    (b.top ∷ rows_below (Some parent) b.top.path b.top.url (kids_of parent tree)) ≡ Some last =
    ap last_of (sym rows)
    ∙ (ap (λ (r : Page). last_of (subtree_rows r.path (rows_of tree))) (sym block.1)
    ∙ end) in
    let step = step_after-last parent b.top last (kids_of parent tree) last_is in
    let path : path_of parent tree ≡ b.top.path = b.walk_is ∙ sym b.path_is in
    rw (block.1, step, path) refl

-- the path of an appended page is the tree's
pub append_is : (pages : List Page) (id : ℕ) (path last : List ℕ) (tree : Forest Body) →
    ArePages pages →
    Some path ≡ option_map (λ (row : Page). row.path) (row_with id pages) →
    ((row : Page) → row_with id pages ≡ Some row →
    Some last ≡ option_map (λ (other : Page). other.path) (last_of (subtree_rows row.path pages))) →
    pages ≡ rows_of tree →
    path_below path (step_after path last) ≡ appended_path id tree
append_is pages id path last tree are found end same =
    by (rows_of tree) refl (rw same at are) (rw same at found) (rw same at end)
  where
    deeper : (rows : List Page) → rows ≡ rows_of tree → ArePages rows → (row : Page) →
        row_with id rows ≡ Some row →
        path ≡ row.path → (o : Option Page) → last_of (subtree_rows row.path rows) ≡ o →
        Some last ≡ option_map (λ (other : Page). other.path) o →
        path_below path (step_after path last) ≡ appended_path id tree
    deeper rows is are row e one None k lasts = absurd cc
    deeper rows is are row e one (Some other) k lasts =
        let last_is : last ≡ other.path = cc in
        rw (one, last_is) (appended_is tree id row other (rw is at are) (rw is at e) (rw is at k))

    by : (rows : List Page) → rows ≡ rows_of tree → ArePages rows →
        Some path ≡ option_map (λ (row : Page). row.path) (row_with id rows) →
        ((row : Page) → row_with id rows ≡ Some row →
        Some last ≡ option_map (λ (other : Page). other.path)
        (last_of (subtree_rows row.path rows))) →
        path_below path (step_after path last) ≡ appended_path id tree
    by rows is are found end = inner (row_with id rows) refl found
      where
        inner : (o : Option Page) → row_with id rows ≡ o →
            Some path ≡ option_map (λ (row : Page). row.path) o →
            path_below path (step_after path last) ≡ appended_path id tree
        inner None e found = absurd cc
        inner (Some row) e found =
            let one : path ≡ row.path = cc in
            deeper rows is are row e one (last_of (subtree_rows row.path rows)) refl (end row e)

-- a page within a range is there
pub at_is_there : (pages : List Page) (place n done : ℕ) → place + n ≤ length pages → done < n →
    None ≡ option_map (λ (row : Page). row.id) (slice_get pages (place + done)) → ⊥
at_is_there pages place n done within low none =
    let one = there_is pages (place + done) (omega arith) in
    let never = rw one.1 at none in cc

-- the ids of one page more
pub ids_more : (pages : List Page) (place done id : ℕ) (ids new : List ℕ) →
    ids ≡ map (λ (row : Page). row.id) (take done (drop place pages)) →
    Some id ≡ option_map (λ (row : Page). row.id) (slice_get pages (place + done)) →
    new ≡ ids ++ id ∷ [] → new ≡ map (λ (row : Page). row.id) (take (done + 1) (drop place pages))
ids_more pages place done id ids new so_far found is =
    by (slice_get pages (place + done)) (slice_get-drop pages place done (place + done) refl) found
  where
    by : (o : Option Page) → slice_get (drop place pages) done ≡ o →
        Some id ≡ option_map (λ (row : Page). row.id) o →
        new ≡ map (λ (row : Page). row.id) (take (done + 1) (drop place pages))
    by None e found = absurd cc
    by (Some row) e found =
        let same : id ≡ row.id = cc in
        let more = take_one_more (drop place pages) done row e in
        rw (
          add-one,
          more,
          map-append (λ (r : Page). r.id) (take done (drop place pages))
              (row ∷ []),
          is,
          so_far,
          same,
        ) refl

-- the ids of the rows are those of the tree
pub ids_of-rows : {B : Type 0} (parent : Option ℕ) (path url : List ℕ) (f : Forest B) →
    map (λ (row : Row B). row.id) (rows_below parent path url f) ≡ ids_of f
ids_of-rows parent path url bare = refl
ids_of-rows {B = B} parent path url (grown i s slug body kids rest) =
    rw (
      map-append (λ (row : Row B). row.id)
          (rows_below (Some i) (path ++ s ∷ []) (child_url url slug) kids)
          (rows_below parent path url rest),
      ids_of-rows (Some i) (path ++ s ∷ []) (child_url url slug) kids,
      ids_of-rows parent path url rest,
    ) refl

-- nothing stands for a page that is not there
pub node_of-absent : {B : Type 0} (id : ℕ) (f : Forest B) → has_page id f ≡ false →
    node_of id f ≡ bare
node_of-absent id bare absent = refl
node_of-absent id (grown i s slug body kids rest) absent =
    by (nat_eq i id) (has_page id kids) refl absent (node_of-absent id kids)
    (node_of-absent id rest)
  where
    by : (here below : Bool) → has_page id kids ≡ below → here || (below || has_page id rest)
        ≡ false →
        (has_page id kids ≡ false → node_of id kids ≡ bare) →
        (has_page id rest ≡ false → node_of id rest ≡ bare) →
        cond here (grown i s slug body kids bare) (or_else (node_of id kids) (node_of id rest))
        ≡ bare
    by true below e absent inside after = absurd cc
    by false true e absent inside after = absurd cc
    by false false e absent inside after = rw (inside e, after absent) refl

-- the ids of a range are those of the page and of all below it
pub deleted_is : (pages : List Page) (id place n : ℕ) (ids : List ℕ) (tree : Forest Body) →
    ArePages pages →
    IsSome (row_with id pages) → IfSome (row_with id pages) (λ row. IsRange pages row place n) →
    ids ≡ map (λ (row : Page). row.id) (take n (drop place pages)) → pages ≡ rows_of tree →
    ids ≡ ids_of (node_of id tree)
deleted_is pages id place n ids tree are there range is same =
    by (row_with id pages) refl there range
  where
    by : (o : Option Page) → row_with id pages ≡ o → IsSome o →
        IfSome o (λ row. IsRange pages row place n) →
        ids ≡ ids_of (node_of id tree)
    by None e there range = absurd (search rules)
    by (Some row) e there range =
        let found : row_with id (rows_of tree) ≡ Some row = rw same at e in
        let block = found_block tree id row (rw same at are) found in
        let b = block.0 in
        let window = range_rows pages row place n range in
        let rows : take n (drop place pages)
        ≡ b.top ∷ rows_below (Some id) b.top.path b.top.url (kids_of id tree) =
        sym window ∙ (ap (subtree_rows row.path) same
        ∙ (ap (λ (r : Page). subtree_rows r.path (rows_of tree)) block.1
        ∙ block_rows id 0 None [] [] tree b)) in
        rw (
          is,
          rows,
          ids_of-rows (Some id) b.top.path b.top.url (kids_of id tree),
          b.id_is,
          b.node_is,
          append-nil (ids_of (kids_of id tree)),
        ) refl

-- and there are none where there is no such page
pub none_deleted : (pages : List Page) (id : ℕ) (ids : List ℕ) (tree : Forest Body) →
    (IsSome (row_with id pages) → ⊥) → ids ≡ [] → pages ≡ rows_of tree →
    ids ≡ ids_of (node_of id tree)
none_deleted pages id ids tree absent is same =
    by (is_some (row_with id pages)) refl
  where
    by : (t : Bool) → is_some (row_with id pages) ≡ t → ids ≡ ids_of (node_of id tree)
    by true e = absurd (absent e)
    by false e =
        let there : has_page id tree ≡ false =
        has_page-rows id None [] [] tree
        ∙ (ap (λ rows. is_some (row_with id rows)) (sym same) ∙ e) in
        rw (is, node_of-absent id tree there) refl

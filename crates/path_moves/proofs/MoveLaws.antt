-- A move as one law for all places: the rows that are left have those of the page put in at a place
-- among those of the new parent, and the later kids of that parent are raised.
use Rattle.std.proofs.Common.{◌≡◌, ℕ, zero, suc, ◌+◌, Bool, true, false, not, cond, nat_eq, ◌||◌, List, [], ◌∷◌, ◌++◌, Option, Some, None, is_some, map, take, drop, length, refl, ap, sym, ◌∙◌, subst, arith}
use Rattle.std.specs.List.{IsDistinct}
use Rattle.std.proofs.lemmas.Bool.Decides.{nat_tests}
use Rattle.page_tree.specs.Tree.{Forest, bare, grown, Place, First, Before, End, has_page, kids_of, last_step, node_of, or_else, placed, without, graft, moved}
use Rattle.page_tree.specs.Rows.{child_url, row_with, rows_below, rows_of, raise_count, with_kid, is_parent}
use Rattle.page_tree.proofs.RowLemmas.{has_page-rows}
use Rattle.tree_model.proofs.CountLemmas.{once, distinct_ids, cut_counts}
use Rattle.tree_model.proofs.PlaceLemmas.{has_kid, IsAmong}
use Rattle.site_types.specs.declared.body.Body.{Body}
use Rattle.page_store.specs.Pages.{Page, EachPair, HasOtherId, ArePages}
use Rattle.page_store.proofs.AllLemmas.{All-weaker, All-map}
use Rattle.page_store.specs.Search.{begins, leading}
use Rattle.tree_rows.specs.Subtree.{subtree_rows}
use Rattle.tree_rows.specs.Cuts.{cut_rows, moved_rows, end_of, put_behind, put_from, place_of, is_sibling}
use Rattle.path_moves.specs.Laws.{IsTree}
use Rattle.tree_rows.proofs.Apart.{AreRising-without, AreApart-distinct}
use Rattle.tree_rows.proofs.SiteTree.{rising_tree}
use Rattle.path_moves.proofs.CallLemmas.{ids_of-rows}
use Rattle.tree_rows.proofs.Block.{Block}
use Rattle.path_moves.proofs.LawLemmas.{block_in, cut_is, graft_is, relabelled_is}
use Rattle.path_moves.proofs.PlaceLemmas.{first_is, before_is, kid_step}

-- the ids of rows that differ are distinct
pub distinct_rows : (rows : List Page) → EachPair HasOtherId rows →
    IsDistinct nat_eq (map (λ (row : Page). row.id) rows)
unfolding IsDistinct
distinct_rows [] own = tt
distinct_rows (row ∷ rows) own = (
  All-map (λ j. nat_eq row.id j ≡ false) (λ (r : Page). r.id) rows
      (All-weaker (HasOtherId row) (λ (later : Page). nat_eq row.id later.id ≡ false)
      (λ (later : Page) differs. other later.id differs) rows own.0),
  distinct_rows rows own.1,
)
  where
    other : (j : ℕ) → (j ≡ row.id → ⊥) → nat_eq row.id j ≡ false
    other j differs = grind (arith, nat_tests)

-- a tree whose rows are those of a store is a tree of pages
pub is_tree : (tree : Forest Body) → ArePages (rows_of tree) → IsTree tree
is_tree tree are = record {
  rising = rising_tree tree are;
  distinct = subst (IsDistinct nat_eq) (ids_of-rows None [] [] tree)
      (distinct_rows (rows_of tree) are.own_ids);
}

-- what a cut leaves is a tree of pages
pub left_is_tree : (id : ℕ) (tree : Forest Body) → IsTree tree → IsTree (without id tree)
left_is_tree id tree is = record {
  rising = AreRising-without id 0 tree is.rising;
  distinct = distinct_ids (without id tree) (λ j.
      let most = once tree is.distinct j in
      let parts = cut_counts id j tree (once tree is.distinct id) in
      omega (arith, most, parts));
}

-- what a kid is called in two words
kid_is_sibling : {B : Type 0} (id : ℕ) (f : Forest B) → has_kid id f ≡ true →
    is_sibling id f ≡ true
kid_is_sibling id bare there = absurd cc
kid_is_sibling id (grown i s slug body kids rest) there =
    by (nat_eq i id) there (kid_is_sibling id rest)
  where
    by : (t : Bool) → t || has_kid id rest ≡ true →
        (has_kid id rest ≡ true → is_sibling id rest ≡ true) →
        cond t true (is_sibling id rest) ≡ true
    by true there more = refl
    by false there more = more there

-- a kid is among the pages
kid_there : {B : Type 0} (id : ℕ) (f : Forest B) → has_kid id f ≡ true → has_page id f ≡ true
kid_there id bare there = absurd cc
kid_there id (grown i s slug body kids rest) there =
    by (nat_eq i id) (has_page id kids) there (kid_there id rest)
  where
    by : (here below : Bool) → here || has_kid id rest ≡ true →
        (has_kid id rest ≡ true → has_page id rest ≡ true) →
        here || (below || has_page id rest) ≡ true
    by true below there more = refl
    by false true there more = refl
    by false false there more = more there

-- what is among the first of two is among one of them
has_page-or_else : {B : Type 0} (id : ℕ) (f g : Forest B) → has_page id (or_else f g) ≡ true →
    has_page id f || has_page id g ≡ true
has_page-or_else id bare g there = there
has_page-or_else id (grown i s slug body kids rest) g there = rw there refl

-- a page below another is among the pages
has_page-kids : {B : Type 0} (id parent : ℕ) (f : Forest B) →
    has_page id (kids_of parent f) ≡ true → has_page id f ≡ true
has_page-kids id parent bare there = absurd cc
has_page-kids id parent (grown i s slug body kids rest) there =
    by (nat_eq i parent) (nat_eq i id) (has_page id kids) refl (has_page id rest) refl
    (has_page-kids id parent kids) (has_page-kids id parent rest) there
  where
    by : (t here below : Bool) → has_page id kids ≡ below → (after : Bool) →
        has_page id rest ≡ after →
        (has_page id (kids_of parent kids) ≡ true → has_page id kids ≡ true) →
        (has_page id (kids_of parent rest) ≡ true → has_page id rest ≡ true) →
        has_page id (cond t kids (or_else (kids_of parent kids) (kids_of parent rest))) ≡ true →
        here || (below || after) ≡ true
    by t true below e after k inside later there = refl
    by t false true e after k inside later there = refl
    by t false false e true k inside later there = refl
    by true false false e false k inside later there = let never = rw e at there in absurd cc
    by false false false e false k inside later there =
        let either = has_page-or_else id (kids_of parent kids) (kids_of parent rest) there in
        inner (has_page id (kids_of parent kids)) refl (has_page id (kids_of parent rest)) refl
        either
      where
        inner : (p : Bool) → has_page id (kids_of parent kids) ≡ p → (q : Bool) →
            has_page id (kids_of parent rest) ≡ q → p || q ≡ true → false ≡ true
        inner true p q r either = sym e ∙ inside p
        inner false p true r either = sym k ∙ later r
        inner false p false r either = either

-- the row of a page that is there
pub found_row : (id : ℕ) (tree : Forest Body) → has_page id tree ≡ true →
    (row : Page) × (row_with id (rows_of tree) ≡ Some row)
found_row id tree there =
    by (row_with id (rows_of tree)) refl (sym (has_page-rows id None [] [] tree) ∙ there)
  where
    by : (o : Option Page) → row_with id (rows_of tree) ≡ o → is_some o ≡ true →
        (row : Page) × (row_with id (rows_of tree) ≡ Some row)
    by None e some = absurd cc
    by (Some row) e some = (row, e)

-- the place of a page that is put in among the rows, below the parent with this path
abbrev pub spot_place : Place → ℕ → List ℕ → List Page → ℕ
spot_place First parent path rows = place_of parent rows + 1
spot_place (Before sibling) parent path rows = place_of sibling rows
spot_place End parent path rows = end_of path rows

-- the step that a page takes at a place, below the parent with this path
abbrev pub TakesStep : Place → ℕ → List ℕ → Forest Body → ℕ → Type 0
TakesStep First parent path left step = step ≡ 1
TakesStep (Before sibling) parent path left step =
    (kid : Page) × (row_with sibling (rows_of left) ≡ Some kid) × (kid.path ≡ path ++ step ∷ [])
TakesStep End parent path left step = step ≡ last_step 0 (kids_of parent left) + 1

-- A move to a place: the step that the page takes, and the rows behind it.
pub record IsPut (page parent : ℕ) (place : Place) (tree : Forest Body) (top above : Page) : Type 0
  where
    pub step : ℕ
    pub takes : TakesStep place parent above.path (without page tree) step
    pub rows_are : rows_of (moved page parent place tree)
        ≡ put_from above.path
        (spot_place place parent above.path (cut_rows top (rows_of tree)))
        (moved_rows parent (above.path ++ step ∷ []) (child_url above.url top.slug)
        (subtree_rows top.path (rows_of tree)))
        (raise_count (Some parent) (cut_rows top (rows_of tree)))

-- the end of a page's rows is told by the paths
pub end_of-map : (path : List ℕ) (f : Page → Page) → ((row : Page) → (f row).path ≡ row.path) →
    (rows : List Page) → end_of path (map f rows) ≡ end_of path rows
end_of-map path f keeps rows =
    let start = first rows in let inside = those rows in rw (start, inside) refl
  where
    first : (rows : List Page) →
        leading (λ (row : Page). not (begins path row.path)) (map f rows)
        ≡ leading (λ (row : Page). not (begins path row.path)) rows
    first [] = refl
    first (row ∷ rows) = rw (keeps row, first rows) refl

    those : (rows : List Page) → length (subtree_rows path (map f rows))
        ≡ length (subtree_rows path rows)
    those [] = refl
    those (row ∷ rows) =
        by (begins path (f row).path) (begins path row.path) (ap (begins path) (keeps row))
        (those rows)
      where
        by : (s t : Bool) → s ≡ t →
            length (subtree_rows path (map f rows)) ≡ length (subtree_rows path rows) →
            length (cond s (f row ∷ subtree_rows path (map f rows))
            (subtree_rows path (map f rows)))
            ≡ length (cond t (row ∷ subtree_rows path rows) (subtree_rows path rows))
        by true true same more = ap suc more
        by true false same more = absurd cc
        by false true same more = absurd cc
        by false false same more = more

-- one kid more leaves the paths
pub raised_keeps : (parent : Option ℕ) (row : Page) →
    (cond (is_parent row.id parent) (with_kid row) row).path ≡ row.path
raised_keeps parent row = by (is_parent row.id parent)
  where
    by : (t : Bool) → (cond t (with_kid row) row).path ≡ row.path
    by true = refl
    by false = refl

-- rows put in at the end are put in behind
put_behind_is : (path : List ℕ) (new rows : List Page) →
    put_behind path new rows ≡ put_from path (end_of path rows) new rows
put_behind_is path new rows =
    let end = end_of path rows in
    let none : drop end (take end rows) ≡ [] = drop_taken end rows in
    rw none refl
  where
    drop_taken : (n : ℕ) (xs : List Page) → drop n (take n xs) ≡ []
    drop_taken zero xs = refl
    drop_taken (suc n) [] = refl
    drop_taken (suc n) (x ∷ xs) = drop_taken n xs

-- A move of a page below a parent that is left after the cut, to a place among its kids there.
pub move_put : (page parent : ℕ) (place : Place) (tree : Forest Body) (top above : Page) →
    IsTree tree → row_with page (rows_of tree) ≡ Some top →
    row_with parent (cut_rows top (rows_of tree)) ≡ Some above →
    IsAmong place (kids_of parent (without page tree)) →
    IsPut page parent place tree top above
move_put page parent place tree top above is found left_found among =
    let apart = AreApart-distinct tree is.distinct in
    let b = (block_in tree page top is.rising apart found).0 in
    let left = without page tree in
    let left_is = left_is_tree page tree is in
    let cut = cut_is page tree top is found in
    let there : row_with parent (rows_of left) ≡ Some above =
    ap (row_with parent) cut ∙ left_found in
    by place among b left_is cut there
    (λ at. relabelled_is page parent at above.path above.url tree top is found)
  where
    -- the rows that are put in at the end
    new : Block page 0 None [] [] tree → List Page
    new b = rows_below (Some parent) above.path above.url
        (placed (grown page b.own_step b.top.slug b.top.body (kids_of page tree) bare)
        (last_step 0 (kids_of parent (without page tree)) + 1) bare)

    by : (place : Place) → IsAmong place (kids_of parent (without page tree)) →
        Block page 0 None [] [] tree →
        IsTree (without page tree) →
        rows_of (without page tree) ≡ cut_rows top (rows_of tree) →
        row_with parent (rows_of (without page tree)) ≡ Some above →
        ((at : ℕ) → rows_below (Some parent) above.path above.url
        (placed (node_of page tree) at bare)
        ≡ moved_rows parent (above.path ++ at ∷ []) (child_url above.url top.slug)
        (subtree_rows top.path (rows_of tree))) →
        IsPut page parent place tree top above
    by First among b left_is cut there labels = record {
      step = 1;
      takes = refl;
      rows_are =
          ap (λ node. rows_of (graft parent First node (without page tree))) b.node_is
          ∙ (first_is parent page b.own_step b.top.slug b.top.body (kids_of page tree)
          (without page tree) above left_is there
          ∙ rw (← cut, ← labels 1, b.node_is) refl);
    }
    by End among b left_is cut there labels = record {
      step = last_step 0 (kids_of parent (without page tree)) + 1;
      takes = refl;
      rows_are =
          ap (λ node. rows_of (graft parent End node (without page tree))) b.node_is
          ∙ (graft_is parent page b.own_step b.top.slug b.top.body (kids_of page tree)
          (without page tree) above left_is there
          ∙ (put_behind_is above.path (new b) (raise_count (Some parent)
          (rows_of (without page tree)))
          ∙ (ap (λ n. put_from above.path n (new b) (raise_count (Some parent)
          (rows_of (without page tree))))
          (end_of-map above.path
          (λ (row : Page). cond (is_parent row.id (Some parent)) (with_kid row) row)
          (raised_keeps (Some parent)) (rows_of (without page tree)))
          ∙ rw (
            ← cut,
            ← labels (last_step 0 (kids_of parent (without page tree)) + 1),
            b.node_is,
          ) refl)));
    }
    by (Before sibling) among b left_is cut there labels =
        let there_kid = has_page-kids sibling parent (without page tree)
        (kid_there sibling (kids_of parent (without page tree)) among) in
        let kid = found_row sibling (without page tree) there_kid in
        let own = kid_is_sibling sibling (kids_of parent (without page tree)) among in
        let at = kid_step parent sibling (without page tree) above kid.0 left_is there kid.1 own in
        record {
          step = at.0;
          takes = (kid.0, kid.1, at.1);
          rows_are =
              ap (λ node. rows_of (graft parent (Before sibling) node (without page tree)))
              b.node_is
              ∙ (before_is parent sibling page b.own_step b.top.slug b.top.body
              (kids_of page tree) (without page tree) above kid.0 left_is there kid.1 own at.0
              at.1
              ∙ rw (← cut, ← labels at.0, b.node_is) refl);
        }

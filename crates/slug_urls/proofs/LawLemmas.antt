-- The URLs that change with a command are the ones that it plans.
use Rattle.std.proofs.Common.{◌≡◌, ◌≤◌, ℕ, Bool, true, false, cond, not, ◌||◌, List, [], ◌∷◌, ◌++◌, Option, Some, None, IsSome, is_some, filter, length, map, nat_eq, nat_lt, unwrap_or, refl, sym, ap, ◌∙◌, subst, arith}
use Rattle.std.specs.Prelude.{option_and_then}
use Rattle.std.specs.List.{AllByRecursion, IsDistinct, list_any}
use Rattle.std.specs.Option.{option_map}
use Rattle.std.specs.Str.{bytes_eq}
use Rattle.std.proofs.lemmas.List.{map-append}
use Rattle.page_tree.specs.Tree.{Forest, bare, grown, Place, End, HasDistinctIds, graft, has_page, ids_of, moved, node_of, without}
use Rattle.page_tree.specs.Walk.{SLASH}
use Rattle.page_tree.specs.Rows.{child_url, rows_below, rows_of, row_with}
use Rattle.page_tree.proofs.RowLemmas.{has_page-rows}
use Rattle.site_types.specs.declared.body.Body.{Body}
use Rattle.page_store.specs.Pages.{Page, EachPair, HasOtherId}
use Rattle.page_store.proofs.InsertLemmas.{same_bytes}
use Rattle.page_store.proofs.KeptLemmas.{found_passes}
use Rattle.page_store.proofs.SeenLemmas.{found_by_own_id, All-find}
use Rattle.tree_model.specs.Changes.{url_in, changed_urls}
use Rattle.tree_model.specs.Limits.{MAX_URL, has_long_url}
use Rattle.tree_model.specs.Places.{parent_in, slug_in}
use Rattle.tree_model.specs.Renames.{renamed}
use Rattle.tree_model.proofs.CountLemmas.{count, once, apart_by_test, same_id, id_found, has_counts, cut_counts, node_found}
use Rattle.tree_model.proofs.ParentLemmas.{slug_told, slug_found}
use Rattle.slug_urls.specs.Plans.{new_urls, is_one_long}
use Rattle.slug_urls.proofs.Grafts.{All-without, graft_differs}
use Rattle.slug_urls.proofs.Landing.{graft_lands}
use Rattle.slug_urls.proofs.Pairs.{pair_of, differs, HasOwn, pairs_below, pairs_of_rows, changes_below}
use Rattle.slug_urls.proofs.PlanLemmas.{own_pairs, url_of_found}
use Rattle.slug_urls.proofs.Renaming.{url_up, renamed_differs}

-- what is told apart from the ids of rows is the id of none
others_apart : (i : ℕ) (rows : List Page) →
    AllByRecursion (λ y. nat_eq i y ≡ false) (map (λ (row : Page). row.id) rows) →
    AllByRecursion (λ (later : Page). later.id ≡ i → ⊥) rows
others_apart i [] all = tt
others_apart i (row ∷ rows) all =
    ((λ same. apart_by_test i row.id all.0 (sym same)), others_apart i rows all.1)

-- rows with distinct ids have other ids
other_ids : (rows : List Page) → IsDistinct nat_eq (map (λ (row : Page). row.id) rows) →
    EachPair HasOtherId rows
unfolding IsDistinct
other_ids [] distinct = tt
other_ids (row ∷ rows) distinct =
    (others_apart row.id rows distinct.0, other_ids rows distinct.1)

-- the ids of the rows are those of the tree
ids_of_rows : (q : Option ℕ) (path url : List ℕ) (f : Forest Body) →
    map (λ (row : Page). row.id) (rows_below q path url f) ≡ ids_of f
ids_of_rows q path url bare = refl
ids_of_rows q path url (grown i s slug body kids rest) =
    ap (λ ids. i ∷ ids) (map-append (λ (row : Page). row.id)
    (rows_below (Some i) (path ++ s ∷ []) (child_url url slug) kids) (rows_below q path url rest)
    ∙ (ap (λ ids. ids ++ map (λ (row : Page). row.id) (rows_below q path url rest))
    (ids_of_rows (Some i) (path ++ s ∷ []) (child_url url slug) kids)
    ∙ ap (λ ids. ids_of kids ++ ids) (ids_of_rows q path url rest)))

-- a text that ends in a byte is not empty
not_empty : (text : List ℕ) (byte : ℕ) → bytes_eq [] (text ++ byte ∷ []) ≡ false
not_empty [] byte = refl
not_empty (x ∷ text) byte = refl

-- a page that is there has a row
some_is : {X : Type 0} (o : Option X) → is_some o ≡ true → (x : X) × (o ≡ Some x)
some_is None none = absurd cc
some_is (Some x) some = (x, refl)

-- and one that is not has none
none_is : {X : Type 0} (o : Option X) → is_some o ≡ false → o ≡ None
none_is None none = refl
none_is (Some x) some = absurd cc

-- the row of a page that is there
row_of : (page : ℕ) (tree : Forest Body) → has_page page tree ≡ true →
    (row : Page) × (row_with page (rows_of tree) ≡ Some row)
row_of page tree there =
    some_is (row_with page (rows_of tree)) (sym (has_page-rows page None [] [] tree) ∙ there)

module _ (tree : Forest Body) (distinct : HasDistinctIds tree) where
  -- the pages of a tree have their own URLs
  own_tree : AllByRecursion (HasOwn (rows_of tree)) (pairs_below [] tree)
  own_tree =
      let ids = subst (λ ids. IsDistinct nat_eq ids) (sym (ids_of_rows None [] [] tree)) distinct in
      subst (λ pairs. AllByRecursion (HasOwn (rows_of tree)) pairs) (pairs_of_rows None [] [] tree)
      (own_pairs (rows_of tree) (rows_of tree)
      (found_by_own_id (rows_of tree) (other_ids (rows_of tree) ids)))

  -- a new page changes its own URL
  pub creation_is : (page parent step : ℕ) (slug : List ℕ) (body : Body) →
      has_page page tree ≡ false → has_page parent tree ≡ true →
      changed_urls (rows_of tree) (rows_of (graft parent End (grown page step slug body bare bare)
      tree))
      ≡ new_urls tree page parent slug
  creation_is page parent step slug body absent there =
      let top = row_of parent tree there in
      let parent_url = url_of_found (rows_of tree) parent top.0 top.1 in
      let none = none_is (row_with page (rows_of tree))
      (sym (has_page-rows page None [] [] tree) ∙ absent) in
      let no_url : url_in page (rows_of tree) ≡ [] =
      ap (λ (o : Option Page). unwrap_or (option_map (λ (r : Page). r.url) o) []) none in
      let changes : bytes_eq (url_in page (rows_of tree)) (child_url top.0.url slug) ≡ false =
      ap (λ u. bytes_eq u (child_url top.0.url slug)) no_url ∙ not_empty (top.0.url
      ++ slug) SLASH in
      changes_below (rows_of tree) None [] [] (graft parent End (grown page step slug body bare
      bare) tree)
      ∙ (graft_differs (rows_of tree) page step slug body bare parent End None [] [] tree top.0
      (once tree distinct parent) top.1 tt own_tree
      ∙ rw (absent, parent_url, changes) refl)

  -- another slug changes the URLs of the page and of all below it
  pub renaming_is : (page : ℕ) (slug : List ℕ) →
      IsSome (option_and_then (λ (row : Page). row.parent) (row_with page (rows_of tree))) →
      changed_urls (rows_of tree) (rows_of (renamed page slug tree))
      ≡ new_urls tree page (parent_in tree page) slug
  renaming_is page slug below = by (row_with page (rows_of tree)) refl below
    where
      of : (row : Page) → row_with page (rows_of tree) ≡ Some row → (o : Option ℕ) →
          row.parent ≡ o → IsSome o →
          changed_urls (rows_of tree) (rows_of (renamed page slug tree))
          ≡ new_urls tree page (parent_in tree page) slug
      of row found None e some = absurd cc
      of row found (Some p) e some =
          let there : has_page page tree ≡ true =
          has_page-rows page None [] [] tree ∙ ap is_some found in
          let parent_is : parent_in tree page ≡ p =
          ap (λ (o : Option Page). unwrap_or (option_and_then (λ (r : Page). r.parent) o) 0) found
          ∙ ap (λ (o : Option ℕ). unwrap_or o 0) e in
          changes_below (rows_of tree) None [] [] (renamed page slug tree)
          ∙ (renamed_differs (rows_of tree) page slug None [] [] tree row (once tree distinct page)
          found
          refl own_tree
          ∙ (ap (λ (o : Option ℕ). filter (differs (rows_of tree)) (pairs_below
          (url_up (rows_of tree) o) (renamed page slug (node_of page tree)))) e
          ∙ rw (there, parent_is) (sym (changes_below (rows_of tree) (Some p) []
          (url_in p (rows_of tree)) (renamed page slug (node_of page tree))))))

      by : (o : Option Page) → row_with page (rows_of tree) ≡ o →
          IsSome (option_and_then (λ (row : Page). row.parent) o) →
          changed_urls (rows_of tree) (rows_of (renamed page slug tree))
          ≡ new_urls tree page (parent_in tree page) slug
      by None e some = absurd cc
      by (Some row) e some = of row e row.parent refl some

  -- the page that is left after a cut has the URL that it had
  url_left : (page parent : ℕ) (top : Page) →
      row_with parent (rows_of (without page tree)) ≡ Some top →
      url_in parent (rows_of tree) ≡ top.url
  url_left page parent top found =
      let own = All-without (HasOwn (rows_of tree)) page [] tree own_tree in
      let rows = all_mapped (HasOwn (rows_of tree)) (rows_of (without page tree))
      (subst (λ pairs. AllByRecursion (HasOwn (rows_of tree)) pairs)
      (sym (pairs_of_rows None [] [] (without page tree))) own) in
      let one = All-find (λ (row : Page). HasOwn (rows_of tree) (pair_of row))
      (λ (row : Page). nat_eq row.id parent) (rows_of (without page tree)) top rows found in
      let same = id_found top.id parent (found_passes (λ (row : Page). nat_eq row.id parent)
      (rows_of (without page tree)) top found) in
      ap (λ id. url_in id (rows_of tree)) (sym same) ∙ one
    where
      all_mapped : (P : ℕ × List ℕ → Type 0) (rows : List Page) →
          AllByRecursion P (map pair_of rows) → AllByRecursion (λ (row : Page). P (pair_of row))
          rows
      all_mapped P [] all = tt
      all_mapped P (row ∷ rows) all = (all.0, all_mapped P rows all.1)

  -- a move changes the URLs of the page and of all below it
  pub move_is : (page parent : ℕ) (place : Place) → has_page page tree ≡ true →
      has_page parent (without page tree) ≡ true →
      has_page page (moved page parent place tree) ≡ true →
      changed_urls (rows_of tree) (rows_of (moved page parent place tree))
      ≡ new_urls tree page parent (slug_in tree page)
  move_is page parent place there left lands =
      let some = has_counts page tree there in
      let only = once tree distinct page in
      let cut = cut_counts page page tree only in
      let cut_parent = cut_counts page parent tree only in
      let single = once tree distinct parent in
      let node = node_found page tree some in
      let count_node : count page (node_of page tree)
      ≡ count page (grown page node.step node.slug node.body node.kids bare) = ap (count page)
      node.is in
      let self = same_id page in
      let at_least = rw self at count_node in
      let none : count page (without page tree) ≡ 0 = omega (arith, cut, at_least, only) in
      let few : count parent (without page tree) ≤ 1 = omega (arith, cut_parent, single) in
      let top = row_of parent (without page tree) left in
      let own = All-without (HasOwn (rows_of tree)) page [] tree own_tree in
      let among = graft_lands page (node_of page tree) parent place (without page tree) few none
      lands in
      let url_is = url_left page parent top.0 top.1 in
      let slug_is : slug_in tree page ≡ node.slug =
      slug_found page None [] [] tree ∙ ap slug_told node.is in
      let kept : renamed page (slug_in tree page) (node_of page tree)
      ≡ grown page node.step node.slug node.body node.kids bare =
      ap (λ f. renamed page (slug_in tree page) f) node.is
      ∙ rw self (ap (λ slug. grown page node.step slug node.body node.kids bare) slug_is) in
      changes_below (rows_of tree) None [] [] (moved page parent place tree)
      ∙ (ap (λ f. filter (differs (rows_of tree))
      (pairs_below [] (graft parent place f (without page tree)))) node.is
      ∙ (graft_differs (rows_of tree) page node.step node.slug node.body node.kids parent place
      None []
      [] (without page tree) top.0 few top.1 among own
      ∙ (ap (λ u. filter (differs (rows_of tree)) (pairs_below u
      (grown page node.step node.slug node.body node.kids bare))) (sym url_is)
      ∙ (ap (λ f. filter (differs (rows_of tree)) (pairs_below (url_in parent (rows_of tree)) f))
      (sym kept)
      ∙ rw there (sym (changes_below (rows_of tree) (Some parent) [] (url_in parent (rows_of tree))
      (renamed page (slug_in tree page) (node_of page tree))))))))

-- whether a row's URL is too long
abbrev has_long : Page → Bool
has_long row = nat_lt MAX_URL (length row.url)

-- among rows without a URL that is too long no page has one
short_in : (id : ℕ) (rows : List Page) → list_any has_long rows ≡ false →
    nat_lt MAX_URL (length (url_in id rows)) ≡ false
short_in id [] short = refl
short_in id (row ∷ rows) short =
    by (nat_eq row.id id) (has_long row) refl short (short_in id rows)
  where
    by : (t u : Bool) → has_long row ≡ u → (u || list_any has_long rows) ≡ false →
        (list_any has_long rows ≡ false → nat_lt MAX_URL (length (url_in id rows)) ≡ false) →
        nat_lt MAX_URL (length (unwrap_or (option_map (λ (r : Page). r.url)
        (cond t (Some row) (row_with id rows))) [])) ≡ false
    by true true e short more = absurd cc
    by true false e short more = e
    by false true e short more = absurd cc
    by false false e short more = more short

-- a row with a URL that is too long is one whose URL changed
long_rows : (before after : List Page) → list_any has_long before ≡ false →
    list_any has_long after ≡ is_one_long (changed_urls before after)
long_rows before [] short = refl
long_rows before (row ∷ after) short =
    by (bytes_eq (url_in row.id before) row.url) refl (long_rows before after short)
  where
    by : (t : Bool) → bytes_eq (url_in row.id before) row.url ≡ t →
        list_any has_long after ≡ is_one_long (changed_urls before after) →
        (has_long row || list_any has_long after)
        ≡ is_one_long (map (λ (r : Page). (r.id, r.url)) (cond (not t)
        (row ∷ filter (λ (r : Page). not (bytes_eq (url_in r.id before) r.url)) after)
        (filter (λ (r : Page). not (bytes_eq (url_in r.id before) r.url)) after)))
    by true e more =
        let same = same_bytes (url_in row.id before) row.url e in
        let fits : has_long row ≡ false =
        ap (λ u. nat_lt MAX_URL (length u)) (sym same) ∙ short_in row.id before short in
        rw fits more
    by false e more = ap (λ t. has_long row || t) more

-- and so it is of trees
pub long_is_new : (before after : Forest Body) → has_long_url before ≡ false →
    has_long_url after ≡ is_one_long (changed_urls (rows_of before) (rows_of after))
long_is_new before after short = long_rows (rows_of before) (rows_of after) short

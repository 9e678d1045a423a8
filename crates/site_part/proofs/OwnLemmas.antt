-- Who owns a page and those below it, as the rows tell it.
use Rattle.std.proofs.Common.{◌≡◌, ℕ, zero, suc, ◌+◌, ◌<◌, ◌≤◌, Bool, true, false, not, ◌&&◌, ◌||◌, nat_eq, List, [], ◌∷◌, ◌++◌, Option, Some, None, IsSome, length, take, drop, slice_get, refl, sym, ap, ◌∙◌, subst, arith, rules}
use Rattle.std.specs.List.{list_all}
use Rattle.std.specs.Option.{option_map, option_map_or, IfSome}
use Rattle.std.proofs.lemmas.List.{length-drop}
use Rattle.std.proofs.lemmas.List.Folds.{list_all-append}
use Rattle.page_tree.specs.Tree.{Forest, bare, grown, node_of, kids_of}
use Rattle.page_tree.specs.Rows.{rows_below, rows_of, row_with, child_url}
use Rattle.site_types.specs.declared.body.Body.{Body}
use Rattle.site_types.specs.declared.page_row.PageRow.{PageRow}
use Rattle.page_store.specs.PageRows.{page_row, IsRange}
use Rattle.page_store.specs.Pages.{Page, ArePages}
use Rattle.tree_rows.specs.Subtree.{subtree_rows}
use Rattle.tree_rows.proofs.SubtreeLemmas.{block_rows, range_rows, found_block, found_at_place}
use Rattle.site_model.specs.Views.{any_page, owns_all, has_kids}

-- an item that fails among the first ones
fails_within : {Item : Type 0} (test : Item → Bool) (xs : List Item) (count at : ℕ) →
    at < count → at < length xs → option_map_or test (slice_get xs at) false ≡ false →
    list_all test (take count xs) ≡ false
fails_within test [] count at before within fails = absurd (omega arith)
fails_within test (x ∷ xs) zero at before within fails = absurd (omega arith)
fails_within test (x ∷ xs) (suc count) zero before within fails = rw fails refl
fails_within test (x ∷ xs) (suc count) (suc at) before within fails =
    rw (fails_within test xs count at (omega arith) (omega arith) fails) (never (test x))
  where
    never : (t : Bool) → t && false ≡ false
    never true = refl
    never false = refl

-- one more that passes
passes_next : {Item : Type 0} (test : Item → Bool) (xs : List Item) (at : ℕ) →
    list_all test (take at xs) ≡ true → option_map_or test (slice_get xs at) false ≡ true →
    list_all test (take (suc at) xs) ≡ true
passes_next test [] at all passes = absurd cc
passes_next test (x ∷ xs) zero all passes = rw passes refl
passes_next test (x ∷ xs) (suc at) all passes =
    both (test x) all (λ more. passes_next test xs at more passes)
  where
    both : (t : Bool) → t && list_all test (take at xs) ≡ true →
        (list_all test (take at xs) ≡ true → list_all test (take (suc at) xs) ≡ true) →
        t && list_all test (take (suc at) xs) ≡ true
    both true all more = more all
    both false all more = absurd cc

-- the item at a place behind a front
slice_get_behind : {Item : Type 0} (xs : List Item) (place at whole : ℕ) → whole ≡ place + at →
    slice_get (drop place xs) at ≡ slice_get xs whole
slice_get_behind [] zero at whole is = refl
slice_get_behind [] (suc place) at whole is = refl
slice_get_behind (x ∷ xs) zero at whole is =
    let same : at ≡ whole = omega arith in
    ap (slice_get (x ∷ xs)) same
slice_get_behind (x ∷ xs) (suc place) at zero is = absurd (omega arith)
slice_get_behind (x ∷ xs) (suc place) at (suc whole) is =
    slice_get_behind xs place at whole (omega arith)

-- a page that fails among so many from a place on
pub fails_between : {Item : Type 0} (test : Item → Bool) (xs : List Item) (place count at : ℕ) →
    at < count → place + count ≤ length xs →
    option_map_or test (slice_get xs (place + at)) false ≡ false →
    list_all test (take count (drop place xs)) ≡ false
fails_between test xs place count at before within fails =
    let long = length-drop place xs in
    fails_within test (drop place xs) count at before (omega (arith, long))
    (ap (λ (o : Option _). option_map_or test o false)
    (slice_get_behind xs place at (place + at) refl) ∙ fails)

-- and one more that passes
pub passes_between : {Item : Type 0} (test : Item → Bool) (xs : List Item) (place at : ℕ) →
    list_all test (take at (drop place xs)) ≡ true →
    option_map_or test (slice_get xs (place + at)) false ≡ true →
    list_all test (take (at + 1) (drop place xs)) ≡ true
passes_between test xs place at all passes =
    let next : at + 1 ≡ suc at = omega arith in
    ap (λ n. list_all test (take n (drop place xs))) next
    ∙ passes_next test (drop place xs) at all
    (ap (λ (o : Option _). option_map_or test o false)
    (slice_get_behind xs place at (place + at) refl) ∙ passes)

-- a row that is found is that of a page
pub row_found : (row : PageRow) (id : ℕ) (pages : List Page) →
    Some row ≡ option_map page_row (row_with id pages) →
    (page : Page) × (row_with id pages ≡ Some page) × (row ≡ page_row page)
row_found row id pages is = by (row_with id pages) refl is
  where
    by : (o : Option Page) → row_with id pages ≡ o → Some row ≡ option_map page_row o →
        (page : Page) × (row_with id pages ≡ Some page) × (row ≡ page_row page)
    by None e h = absurd cc
    by (Some page) e h = (page, e, (let same : row ≡ page_row page = cc in same))

-- the row of the page at a place
row_at_place : (pages : List Page) (place id : ℕ) → ArePages pages →
    Some id ≡ option_map (λ (row : Page). row.id) (slice_get pages place) →
    slice_get pages place ≡ row_with id pages
row_at_place pages place id are is = by (slice_get pages place) refl is
  where
    by : (o : Option Page) → slice_get pages place ≡ o →
        Some id ≡ option_map (λ (row : Page). row.id) o → o ≡ row_with id pages
    by None e h = absurd cc
    by (Some row) e h =
        let same : row.id ≡ id = cc in
        sym (found_at_place pages place row are e) ∙ ap (λ i. row_with i pages) same

-- it is there
pub place_has_row : (pages : List Page) (place id : ℕ) → ArePages pages →
    Some id ≡ option_map (λ (row : Page). row.id) (slice_get pages place) →
    None ≡ option_map page_row (row_with id pages) → ⊥
place_has_row pages place id are is none =
    by (slice_get pages place) is
    (none ∙ ap (option_map page_row) (sym (row_at_place pages place id are is)))
  where
    by : (o : Option Page) → Some id ≡ option_map (λ (row : Page). row.id) o →
        None ≡ option_map page_row o → ⊥
    by None h n = cc
    by (Some row) h n = cc

module _ (test : Body → Bool) where
  -- each of these rows passes where none of these pages fails
  rows_all : (parent : Option ℕ) (path url : List ℕ) (f : Forest Body) →
      list_all (λ (row : Page). test row.body) (rows_below parent path url f)
      ≡ not (any_page (λ body. not (test body)) f)
  rows_all parent path url bare = refl
  rows_all parent path url (grown i s slug body kids rest) =
      rw (
        list_all-append (λ (row : Page). test row.body)
            (rows_below (Some i) (path ++ s ∷ []) (child_url url slug) kids)
            (rows_below parent path url rest),
        rows_all (Some i) (path ++ s ∷ []) (child_url url slug) kids,
        rows_all parent path url rest,
      ) (each (test body) (any_page (λ body. not (test body)) kids)
      (any_page (λ body. not (test body)) rest))
    where
      each : (a b c : Bool) → a && (not b && not c) ≡ not (not a || (b || c))
      each true true c = refl
      each true false c = refl
      each false b c = refl

  module _ (pages : List Page) (are : ArePages pages) (tree : Forest Body)
      (is_tree : pages ≡ rows_of tree) (id : ℕ) where
    -- the rows of a page's range pass where the page and all below it do
    pub range_all : (place count : ℕ) → IsSome (row_with id pages) →
        IfSome (row_with id pages) (λ row. IsRange pages row place count) →
        list_all (λ (row : Page). test row.body) (take count (drop place pages))
        ≡ not (any_page (λ body. not (test body)) (node_of id tree))
    range_all place count there range = by (row_with id pages) refl there range
      where
        by : (o : Option Page) → row_with id pages ≡ o → IsSome o →
            IfSome o (λ row. IsRange pages row place count) →
            list_all (λ (row : Page). test row.body) (take count (drop place pages))
            ≡ not (any_page (λ body. not (test body)) (node_of id tree))
        by None e there range = absurd (search rules)
        by (Some row) e there range =
            let found : row_with id (rows_of tree) ≡ Some row = rw is_tree at e in
            let block = found_block tree id row (rw is_tree at are) found in
            let b = block.0 in
            let rows : take count (drop place pages)
            ≡ b.top ∷ rows_below (Some id) b.top.path b.top.url (kids_of id tree) =
            sym (range_rows pages row place count range) ∙ (ap (subtree_rows row.path) is_tree
            ∙ (ap (λ (r : Page). subtree_rows r.path (rows_of tree)) block.1
            ∙ block_rows id 0 None [] [] tree b)) in
            ap (list_all (λ (row : Page). test row.body)) rows
            ∙ (ap (λ t. test b.top.body && t)
            (rows_all (Some id) b.top.path b.top.url (kids_of id tree))
            ∙ (one (test b.top.body) (any_page (λ body. not (test body)) (kids_of id tree))
            ∙ ap (λ node. not (any_page (λ body. not (test body)) node)) (sym b.node_is)))
          where
            one : (a k : Bool) → a && not k ≡ not (not a || (k || false))
            one true true = refl
            one true false = refl
            one false k = refl

module _ (pages : List Page) (are : ArePages pages) (tree : Forest Body)
    (is_tree : pages ≡ rows_of tree) (id : ℕ) where
  -- the rows of a page's range are owned where the page and all below it are
  pub range_owned : (user place count : ℕ) → IsSome (row_with id pages) →
      IfSome (row_with id pages) (λ row. IsRange pages row place count) →
      list_all (λ (row : Page). nat_eq row.body.owner user) (take count (drop place pages))
      ≡ owns_all tree user id
  range_owned user = range_all (λ body. nat_eq body.owner user) pages are tree is_tree id

  -- the number of kids in a page's row
  pub row_kids : (row : PageRow) → Some row ≡ option_map page_row (row_with id pages) →
      not (nat_eq row.numchild 0) ≡ has_kids tree id
  row_kids row is =
      let page = row_found row id pages is in
      let found : row_with id (rows_of tree) ≡ Some page.0 =
      ap (row_with id) (sym is_tree) ∙ page.1 in
      let block = found_block tree id page.0 (subst ArePages is_tree are) found in
      let b = block.0 in
      ap (λ (r : PageRow). not (nat_eq r.numchild 0)) page.2
      ∙ (ap (λ (r : Page). not (nat_eq r.numchild 0)) block.1
      ∙ ap (λ n. not (nat_eq n 0)) b.count_is)

-- a row at a place passes a test of its page
pub place_told : (test : Body → Bool) (pages : List Page) (place id : ℕ) (row : PageRow)
    (told : Bool) → ArePages pages →
    Some id ≡ option_map (λ (row : Page). row.id) (slice_get pages place) →
    Some row ≡ option_map page_row (row_with id pages) → told ≡ test row.body →
    told ≡ option_map_or (λ (page : Page). test page.body) (slice_get pages place) false
place_told test pages place id row told are is found same =
    let page = row_found row id pages found in
    same
    ∙ (ap (λ (r : PageRow). test r.body) page.2
    ∙ ap (λ (o : Option Page). option_map_or (λ (r : Page). test r.body) o false)
    (sym page.1 ∙ sym (row_at_place pages place id are is)))

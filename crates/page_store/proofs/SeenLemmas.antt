-- The rows that the store is seen as, read from what it keeps.
use Rattle.std.proofs.Common.{◌≡◌, ℕ, suc, ◌+◌, ◌<◌, ◌≤◌, Bool, true, false, cond, nat_eq, ◌||◌, eqb, List, [], ◌∷◌, Option, Some, None, IsSome, map, find, filter, length, slice_get, refl, ap, sym, ◌∙◌, subst, arith, add-one, rules}
use Rattle.std.proofs.lemmas.Bool.Decides.{nat_tests}
use Rattle.std.specs.List.{AllByRecursion, IsDistinct, list_any}
use Rattle.std.proofs.lemmas.List.{length-map}
use Rattle.std.proofs.lemmas.Map.Steps.{length-le_from_distinct_below}
use Rattle.std.specs.Option.{option_map, option_map_or, IfSome}
use Rattle.std.specs.Str.{bytes_eq}
use Rattle.std.specs.Map.{lookup}
use Rattle.page_tree.specs.Rows.{comes_before, row_with, is_parent, kids_in}
use Rattle.step_path.specs.Path.{IsPath, steps_of}
use Rattle.site_types.specs.Ids.{IsPageId}
use Rattle.page_store.specs.declared.stored.StoredRow.{StoredRow}
use Rattle.page_store.specs.declared.kid_index.KidIndex.{KidIndex}
use Rattle.page_store.specs.declared.search.Front.{Front}
use Rattle.page_store.specs.declared.search.Front.TheVariants.{Before}
use Rattle.page_store.specs.PageRows.{above, parent_id}
use Rattle.page_store.specs.Pages.{Page, EachPair, IsBefore, HasOtherId, ArePages}
use Rattle.page_store.specs.Kept.{seen, seen_before, rows_seen, IsKept}
use Rattle.page_store.specs.Search.{leading, PassFirst, front_test, is_front}
use Rattle.page_store.proofs.PathOrder.{comes_before-self, comes_before-trans}
use Rattle.page_store.proofs.Leading.{leading-map, PassFirst-map}
use Rattle.page_store.proofs.AllLemmas.{All-weaker, All-both, All-map}
use Rattle.page_store.proofs.InsertLemmas.{same_bytes}

-- the greatest id of a page
abbrev last_page_id : ℕ
last_page_id = 1_000_000

-- each row is found by its id
pub found_by_own_id : (pages : List Page) → EachPair HasOtherId pages →
    AllByRecursion (λ row. row_with row.id pages ≡ Some row) pages
found_by_own_id [] own = tt
found_by_own_id (row ∷ rows) own =
    let self : nat_eq row.id row.id ≡ true = grind (arith, nat_tests) in (
      rw self refl,
      All-both (HasOtherId row) (λ later. row_with later.id rows ≡ Some later) (λ
          later. row_with later.id (row ∷ rows) ≡ Some later) step rows own.0 (found_by_own_id rows
          own.1),
    )
  where
    step : (later : Page) → HasOtherId row later → row_with later.id rows ≡ Some later →
        row_with later.id (row ∷ rows) ≡ Some later
    step later differ more = let test : nat_eq row.id later.id ≡ false = grind (arith, nat_tests) in
        rw test more

-- a row that is kept and seen stands in front of those seen before
seen_one : (o : Option StoredRow) (row : Page) (rows : List Page) → option_map seen o ≡ Some row →
    seen_before o rows ≡ row ∷ rows
seen_one None row rows h = cc
seen_one (Some stored) row rows h =
    let one : seen stored ≡ row = cc in ap (λ r. r ∷ rows) one

-- where each row is what is kept of its id, they are what is seen of their ids
rows_seen-from_each : (stored : List (ℕ × StoredRow)) (rows : List Page) →
    AllByRecursion (λ row. option_map seen (lookup (nat_eq row.id) stored) ≡ Some row) rows →
    rows_seen stored (map (λ row. row.id) rows) ≡ rows
rows_seen-from_each stored [] all = refl
rows_seen-from_each stored (row ∷ rows) all =
    seen_one (lookup (nat_eq row.id) stored) row (rows_seen stored (map (λ row. row.id) rows)) all.0
    ∙ ap (λ rs. row ∷ rs) (rows_seen-from_each stored rows all.1)

module _ (stored : List (ℕ × StoredRow)) (order : List ℕ) (pages : List Page)
    (ids : map (λ row. row.id) pages ≡ order) (found : (id : ℕ) →
    row_with id pages ≡ option_map seen (lookup (nat_eq id) stored))
    (own_ids : EachPair HasOtherId pages) where
  -- each row is what is kept of its id
  pub kept_of_ids : AllByRecursion (λ row. option_map seen (lookup (nat_eq row.id) stored) ≡ Some row)
      pages
  kept_of_ids =
      All-weaker (λ row. row_with row.id pages ≡ Some row) (λ row. option_map seen (lookup (nat_eq
      row.id) stored) ≡ Some row) (λ row h. sym (found row.id) ∙ h) pages (found_by_own_id pages
      own_ids)

  -- what is seen of the order is what is found by id
  pub rows_seen-ids : rows_seen stored order ≡ pages
  rows_seen-ids = rw (← ids) (rows_seen-from_each stored pages kept_of_ids)

  -- a page stands in front where its row does
  pub fronts_of_ids : (front : Front) (path : List ℕ) →
      AllByRecursion (λ row. is_front front path stored row.id ≡ front_test front path row.path)
      pages
  fronts_of_ids front path =
      All-weaker (λ row. option_map seen (lookup (nat_eq row.id) stored) ≡ Some row) (λ row.
      is_front front path stored row.id ≡ front_test front path row.path) (λ row h. by (lookup
      (nat_eq row.id) stored) row h) pages kept_of_ids
    where
      by : (o : Option StoredRow) (row : Page) → option_map seen o ≡ Some row →
          option_map_or (λ page. front_test front path (steps_of page.row.path)) o false ≡
          front_test front path row.path
      by None row h = cc
      by (Some page) row h = let one : seen page ≡ row = cc in
          ap (λ (r : Page). front_test front path r.path) one

  -- how many pages stand in front of a path
  pub place_of_ids : (front : Front) (path : List ℕ) →
      leading (is_front front path stored) order ≡ leading (λ row. front_test front path row.path)
      pages
  place_of_ids front path =
      rw (← ids) (leading-map (λ (row : Page). row.id) (is_front front path stored) (λ row.
      front_test front path row.path) pages (fronts_of_ids front path))

module _ (stored : List (ℕ × StoredRow)) (order : List ℕ) (kids : KidIndex) (pages : List Page)
    (kept : IsKept stored order kids pages) where
  -- each row is what is kept of its id
  pub kept_of_own_id : AllByRecursion (λ row. option_map seen (lookup (nat_eq row.id) stored) ≡ Some
      row) pages
  kept_of_own_id = kept_of_ids stored order pages kept.ids kept.found kept.are_pages.own_ids

  -- what is seen of the order is what is kept
  pub rows_seen-kept : rows_seen stored order ≡ pages
  rows_seen-kept = rows_seen-ids stored order pages kept.ids kept.found kept.are_pages.own_ids

  -- a page stands in front where its row does
  pub fronts : (front : Front) (path : List ℕ) →
      AllByRecursion (λ row. is_front front path stored row.id ≡ front_test front path row.path)
      pages
  fronts = fronts_of_ids stored order pages kept.ids kept.found kept.are_pages.own_ids

-- the rows before a path stand first
before_first : (path : List ℕ) (rows : List Page) → EachPair IsBefore rows →
    PassFirst (λ row. comes_before row.path path) rows
before_first path [] order = tt
before_first path (row ∷ rows) order = (
  (λ fails. All-weaker (IsBefore row) (λ later. comes_before later.path path ≡ false) (λ later
      after. by later after fails (comes_before later.path path) refl) rows order.0),
  before_first path rows order.1,
)
  where
    by : (later : Page) → IsBefore row later → comes_before row.path path ≡ false → (t : Bool) →
        comes_before later.path path ≡ t → comes_before later.path path ≡ false
    by later after fails true e = let both = comes_before-trans row.path later.path path after e in absurd cc
    by later after fails false e = e

-- what comes before each row comes before the one that is found
before_found : (row : Page) (path : List ℕ) (rows : List Page) →
    AllByRecursion (IsBefore row) rows → IsSome (find (λ other. bytes_eq other.path path) rows) →
    comes_before row.path path ≡ true
before_found row path [] order some = absurd (search rules)
before_found row path (other ∷ rows) order some =
    by (bytes_eq other.path path) refl some (before_found row path rows order.1)
  where
    by : (t : Bool) → bytes_eq other.path path ≡ t →
        IsSome (cond t (Some other) (find (λ other. bytes_eq other.path path) rows)) →
        (IsSome (find (λ other. bytes_eq other.path path) rows) →
        comes_before row.path path ≡ true) → comes_before row.path path ≡ true
    by true e some more = rw (← same_bytes other.path path e) order.0
    by false e some more = more some

-- a page stands behind as many pages as come before its path
pub found_place : (path : List ℕ) (rows : List Page) → EachPair IsBefore rows →
    IsSome (find (λ row. bytes_eq row.path path) rows) →
    find (λ row. bytes_eq row.path path) rows ≡ slice_get rows (leading (λ row. comes_before
    row.path path) rows)
found_place path [] order some = absurd (search rules)
found_place path (row ∷ rows) order some =
    by (bytes_eq row.path path) refl some (found_place path rows order.1)
  where
    by : (t : Bool) → bytes_eq row.path path ≡ t →
        IsSome (cond t (Some row) (find (λ other. bytes_eq other.path path) rows)) →
        (IsSome (find (λ row. bytes_eq row.path path) rows) →
        find (λ row. bytes_eq row.path path) rows ≡ slice_get rows (leading (λ row. comes_before
        row.path path) rows)) →
        cond t (Some row) (find (λ row. bytes_eq row.path path) rows) ≡ slice_get (row ∷ rows)
        (leading (λ row. comes_before row.path path) (row ∷ rows))
    by true e some more = let behind : comes_before row.path path ≡ false =
        rw (same_bytes row.path path e) (comes_before-self path) in rw behind refl
    by false e some more = rw (before_found row path rows order.0 some, add-one) (more some)

-- something is found where something comes of it
some_from_map : {X Y : Type 0} (f : X → Y) (o : Option X) → IsSome (option_map f o) → IsSome o
some_from_map f None h = h
some_from_map f (Some x) h = h

-- what holds of each element holds of the one that is found
pub All-find : {X : Type 0} (P : X → Type 0) (test : X → Bool) (xs : List X) (x : X) →
    AllByRecursion P xs → find test xs ≡ Some x → P x
All-find P test [] x all h = cc
All-find P test (y ∷ xs) x all h = by (test y) h (All-find P test xs x all.1)
  where
    by : (t : Bool) → cond t (Some y) (find test xs) ≡ Some x → (find test xs ≡ Some x → P x) → P x
    by true e more = let one : y ≡ x = cc in subst P one all.0
    by false e more = more e

-- a list of rows that pass is no longer than the list
pub length-filter-le : {X : Type 0} (test : X → Bool) (xs : List X) → length (filter test xs) ≤ length xs
length-filter-le test [] = omega arith
length-filter-le test (x ∷ xs) = by (test x) (length-filter-le test xs)
  where
    by : (t : Bool) → length (filter test xs) ≤ length xs →
        length (cond t (x ∷ filter test xs) (filter test xs)) ≤ suc (length xs)
    by true h = omega arith
    by false h = omega arith

-- ids that differ are distinct
ids_distinct : (pages : List Page) → EachPair HasOtherId pages → IsDistinct eqb (map (λ row. row.id) pages)
unfolding IsDistinct
ids_distinct [] own = tt
ids_distinct (row ∷ rows) own = (
  All-map (λ id. eqb row.id id ≡ false) (λ (r : Page). r.id) rows (All-weaker (HasOtherId row) (λ
      later. eqb row.id later.id ≡ false) (λ later differ. grind (arith, nat_tests)) rows own.0),
  ids_distinct rows own.1,
)

-- an id among those of the pages is in its range
id_below : (q : ℕ) (pages : List Page) → AllByRecursion (λ row. IsPageId row.id) pages →
    list_any (eqb q) (map (λ row. row.id) pages) ≡ true → q < last_page_id + 1
id_below q [] fit h = cc
id_below q (row ∷ rows) fit h = by (eqb q row.id) refl h (id_below q rows fit.1)
  where
    by : (t : Bool) → eqb q row.id ≡ t → t || list_any (eqb q) (map (λ row. row.id) rows) ≡ true →
        (list_any (eqb q) (map (λ row. row.id) rows) ≡ true → q < last_page_id + 1) →
        q < last_page_id + 1
    by true e h more = let same : q ≡ row.id = grind (arith, nat_tests) in
        let most : row.id ≤ last_page_id = fit.0.1 in omega arith
    by false e h more = more h

-- there are no more pages than ids
pub few_pages : (pages : List Page) → ArePages pages → length pages < last_page_id + 2
few_pages pages are =
    let few = length-le_from_distinct_below (map (λ row. row.id) pages) (last_page_id + 1)
    (ids_distinct pages are.own_ids) (λ q. id_below q pages are.ids_fit) in
    let same : length (map (λ (row : Page). row.id) pages) ≡ length pages =
    length-map pages (λ (row : Page). row.id) in omega arith

-- no page has a path of no steps
nothing_above : (path : List ℕ) → above path ≡ [] → (pages : List Page) →
    AllByRecursion (λ row. IsPath row.path) pages →
    IsSome (find (λ row. bytes_eq row.path (above path)) pages) → ⊥
nothing_above path none [] paths some = search rules
nothing_above path none (row ∷ rows) paths some =
    by (bytes_eq row.path (above path)) refl some (nothing_above path none rows paths.1)
  where
    by : (t : Bool) → bytes_eq row.path (above path) ≡ t →
        IsSome (cond t (Some row) (find (λ row. bytes_eq row.path (above path)) rows)) →
        (IsSome (find (λ row. bytes_eq row.path (above path)) rows) → ⊥) → ⊥
    by true e some more =
        let same : row.path ≡ [] = same_bytes row.path (above path) e ∙ none in
        let long : 0 < length row.path = paths.0.some in
        let short : length row.path ≡ 0 = ap length same in
        omega arith
    by false e some more = more some

-- a path that has a page above it has more than one step
pub steps_of_kid : (path : List ℕ) (pages : List Page) →
    AllByRecursion (λ row. IsPath row.path) pages → IsSome (parent_id path pages) → 1 < length path
steps_of_kid [] pages paths some =
    absurd (nothing_above [] refl pages paths (some_from_map (λ (r : Page). r.id) _ some))
steps_of_kid (x ∷ []) pages paths some =
    absurd (nothing_above (x ∷ []) refl pages paths (some_from_map (λ (r : Page). r.id) _ some))
steps_of_kid (x ∷ y ∷ path) pages paths some = omega arith

-- the parent stands behind the pages that come before its path
pub parent_at : (path text : List ℕ) (place : ℕ) (pages : List Page) → EachPair IsBefore pages →
    IsSome (parent_id path pages) → steps_of text ≡ above path →
    place ≡ leading (λ row. comes_before row.path (steps_of text)) pages →
    parent_id path pages ≡ option_map (λ row. row.id) (slice_get pages place)
parent_at path text place pages order some is at =
    rw (at, is) (ap (λ o. option_map (λ (r : Page). r.id) o) (found_place (above path) pages order
    (some_from_map (λ (r : Page). r.id) _ some)))

-- those that come before a path stand first, in an order of rows
pub first_of_ids : (stored : List (ℕ × StoredRow)) (order : List ℕ) (pages : List Page) →
    map (λ row. row.id) pages ≡ order →
    ((id : ℕ) → row_with id pages ≡ option_map seen (lookup (nat_eq id) stored)) →
    EachPair HasOtherId pages → EachPair IsBefore pages → (path : List ℕ) →
    PassFirst (is_front Before path stored) order
first_of_ids stored order pages ids found own_ids in_order path =
    rw (← ids) (PassFirst-map (λ (row : Page). row.id) (is_front Before path stored) (λ row.
    comes_before row.path path) pages (fronts_of_ids stored order pages ids found own_ids Before
    path) (before_first path pages in_order))

module _ (stored : List (ℕ × StoredRow)) (order : List ℕ) (kids : KidIndex) (pages : List Page)
    (kept : IsKept stored order kids pages) where
  -- how many pages stand in front of a path
  pub place_found : (front : Front) (path : List ℕ) →
      leading (is_front front path stored) order ≡ leading (λ row. front_test front path row.path)
      pages
  place_found = place_of_ids stored order pages kept.ids kept.found kept.are_pages.own_ids

  -- those that come before a path stand first
  pub fronts_first : (path : List ℕ) → PassFirst (is_front Before path stored) order
  fronts_first =
      first_of_ids stored order pages kept.ids kept.found kept.are_pages.own_ids
      kept.are_pages.in_order

  -- a page that is kept has room for one child more
  pub few_kids : (id : ℕ) → IfSome (lookup (nat_eq id) stored) (λ page. page.row.numchild + 1 < 4294967296)
  few_kids id = by (lookup (nat_eq id) stored) refl
    where
      by : (o : Option StoredRow) → lookup (nat_eq id) stored ≡ o →
          IfSome o (λ page. page.row.numchild + 1 < 4294967296)
      by None e = tt
      by (Some page) e =
          let count : page.row.numchild ≡ length (kids_in page.row.id pages) =
          All-find (λ row. row.numchild ≡ length (kids_in row.id pages)) (λ row. nat_eq row.id
          id) pages (seen page) kept.are_pages.counts (kept.found id ∙ ap (option_map seen) e)
          in
          let same : length (kids_in page.row.id pages) ≡ length (filter (λ (row : Page). is_parent
          page.row.id row.parent) pages) = length-map _ (λ (row : Page). row.id) in
          let few = length-filter-le (λ (row : Page). is_parent page.row.id row.parent) pages in
          let most = few_pages pages kept.are_pages in
          omega arith

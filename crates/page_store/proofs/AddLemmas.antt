-- The rows of a tree with a new one among them are the rows of a tree.
use Rattle.std.proofs.Common.{◌≡◌, ℕ, suc, ◌+◌, ◌<◌, ◌≤◌, Bool, true, false, cond, nat_eq, ◌&&◌, List, [], ◌∷◌, Option, Some, None, IsSome, find, filter, length, refl, ap, sym, ◌∙◌, subst, arith, add-one, rules}
use Rattle.std.proofs.lemmas.List.{length-map}
use Rattle.std.proofs.lemmas.Bool.Decides.{nat_tests}
use Rattle.std.specs.List.{AllByRecursion}
use Rattle.std.specs.Option.{option_map}
use Rattle.std.specs.Str.{bytes_eq}
use Rattle.page_tree.specs.Rows.{comes_before, raise_count, with_kid, with_row, is_parent, row_with, kid_named, kids_in}
use Rattle.step_path.specs.Path.{IsPath}
use Rattle.site_types.specs.Ids.{IsPageId}
use Rattle.page_store.specs.PageRows.{above, parent_id}
use Rattle.page_store.specs.Pages.{Page, EachPair, IsBefore, HasOtherId, HasOtherSlug, IsRootRow, StartsAtRoot, ArePages}
use Rattle.page_store.proofs.PathOrder.{comes_before-other}
use Rattle.page_store.proofs.AllLemmas.{All-weaker, All-both, All-always, All-map, All-insert_in_order, All-raise_count, EachPair-raise_count, EachPair-insert_in_order, raised}
use Rattle.page_store.proofs.InsertLemmas.{same_bytes, bytes_eq-self, all_fail_from_find, other_ids, find-raise_count, find-insert_fails, count-raise_count, count-insert}

-- A row that may be put in below the page p.
pub record CanBeAdded (pages : List Page) (new : Page) (p : ℕ) : Type 0 where
  pub path_is : IsPath new.path
  pub id_fits : IsPageId new.id
  pub new_id : row_with new.id pages ≡ None
  pub new_path : AllByRecursion (λ other. other.path ≡ new.path → ⊥) pages
  pub parent_is : new.parent ≡ Some p
  pub found_parent : parent_id new.path pages ≡ Some p
  pub free_slug : kid_named p new.slug pages ≡ None
  pub childless : new.numchild ≡ 0

-- where each element fails, nothing is found
pub find_none : {X : Type 0} (test : X → Bool) (xs : List X) →
    AllByRecursion (λ x. test x ≡ false) xs → find test xs ≡ None
find_none test [] all = refl
find_none test (x ∷ xs) all = rw all.0 (find_none test xs all.1)

-- and none passes
filter_none : {X : Type 0} (test : X → Bool) (xs : List X) →
    AllByRecursion (λ x. test x ≡ false) xs → length (filter test xs) ≡ 0
filter_none test [] all = refl
filter_none test (x ∷ xs) all = rw all.0 (filter_none test xs all.1)

-- nothing is found where nothing comes of it
pub none_from_map : {X Y : Type 0} (f : X → Y) (o : Option X) → option_map f o ≡ None → o ≡ None
none_from_map f None h = refl
none_from_map f (Some x) h = cc

-- a raised count leaves the id
pub raised-id : (parent : Option ℕ) (row : Page) → (raised parent row).id ≡ row.id
raised-id parent row = by (is_parent row.id parent)
  where
    by : (t : Bool) → (let out : Page = cond t (with_kid row) row in out.id) ≡ row.id
    by true = refl
    by false = refl

-- the id of what is found, with a raised count
pub id_of_raised : (parent : Option ℕ) (o : Option Page) →
    option_map (λ (r : Page). r.id) (option_map (raised parent) o) ≡ option_map (λ (r : Page). r.id)
    o
id_of_raised parent None = refl
id_of_raised parent (Some row) = ap Some (raised-id parent row)

-- a path that no page has is not that of a parent
apart_from_parent : (path own : List ℕ) (pages : List Page) →
    AllByRecursion (λ other. other.path ≡ path → ⊥) pages → IsSome (parent_id own pages) →
    bytes_eq path (above own) ≡ false
apart_from_parent path own pages others some = by (bytes_eq path (above own)) refl
  where
    none : bytes_eq path (above own) ≡ true → find (λ row. bytes_eq row.path (above own)) pages ≡ None
    none e = find_none (λ row. bytes_eq row.path (above own)) pages
        (All-weaker (λ other. other.path ≡ path →
        ⊥) (λ other. bytes_eq other.path (above own) ≡ false) (λ other differ. other_bytes
        other.path (above own) (λ same. differ (same ∙ sym (same_bytes path (above own) e))))
        pages others)
      where
        other_bytes : (xs ys : List ℕ) → (xs ≡ ys → ⊥) → bytes_eq xs ys ≡ false
        other_bytes xs ys differ = by (bytes_eq xs ys) refl
          where
            by : (t : Bool) → bytes_eq xs ys ≡ t → bytes_eq xs ys ≡ false
            by true e = absurd (differ (same_bytes xs ys e))
            by false e = e

    by : (t : Bool) → bytes_eq path (above own) ≡ t → bytes_eq path (above own) ≡ false
    by true e = absurd (let P : Option Page →
        Type 0 = λ o. IsSome (option_map (λ (r : Page). r.id) o) in let h = subst P (none e) some in
        search rules)
    by false e = e

-- a path of one step or more is not that of what is above the root
apart_from_nothing : (path : List ℕ) → 0 < length path → bytes_eq path [] ≡ false
apart_from_nothing [] some = absurd (omega arith)
apart_from_nothing (x ∷ path) some = refl

-- a path that no page has is that of no page's parent
apart_from_parents : (path : List ℕ) (pages : List Page) → 0 < length path → ArePages pages →
    AllByRecursion (λ other. other.path ≡ path → ⊥) pages →
    AllByRecursion (λ row. bytes_eq path (above row.path) ≡ false) pages
apart_from_parents path [] some are others = tt
apart_from_parents path (row ∷ rows) some are others = (
  rw are.root.0.path_is (apart_from_nothing path some),
  All-both (λ later. later.parent ≡ parent_id later.path (row ∷ rows)) (λ later. IsSome
      later.parent) (λ later. bytes_eq path (above later.path) ≡ false) (λ later is there.
      apart_from_parent path later.path (row ∷ rows) others (subst IsSome is there)) rows
      are.parents.1 are.root.1,
)

-- a parent is a page
pub parent_is_page : (path : List ℕ) (pages : List Page) (n q : ℕ) →
    AllByRecursion (λ row. row.id ≡ n → ⊥) pages → parent_id path pages ≡ Some q → q ≡ n → ⊥
parent_is_page path pages n q others is same = by pages others is
  where
    by : (rows : List Page) → AllByRecursion (λ row. row.id ≡ n → ⊥) rows →
        option_map (λ (r : Page). r.id) (find (λ row. bytes_eq row.path (above path)) rows) ≡ Some q
        → ⊥
    by [] others is = cc
    by (row ∷ rows) others is = cases (bytes_eq row.path (above path)) is (by rows others.1)
      where
        cases : (t : Bool) → option_map (λ (r : Page). r.id) (cond t (Some row) (find (λ row.
            bytes_eq row.path (above path)) rows)) ≡ Some q →
            (option_map (λ (r : Page). r.id) (find (λ row. bytes_eq row.path (above path)) rows) ≡
            Some q → ⊥) → ⊥
        cases true is more = others.0 (let one : row.id ≡ q = cc in one ∙ same)
        cases false is more = more is

-- a page that is not there has no kids
pub no_kids : (n : ℕ) (pages : List Page) → AllByRecursion (λ row. row.id ≡ n → ⊥) pages →
    AllByRecursion (λ row. row.parent ≡ parent_id row.path pages) pages →
    AllByRecursion (λ row. is_parent n row.parent ≡ false) pages
no_kids n pages others parents =
    All-weaker (λ row. row.parent ≡ parent_id row.path pages) (λ row. is_parent n row.parent ≡
    false) (λ row is. by row.path row.parent (sym is)) pages parents
  where
    by : (path : List ℕ) (o : Option ℕ) → parent_id path pages ≡ o → is_parent n o ≡ false
    by path None is = refl
    by path (Some q) is = let differ = parent_is_page path pages n q others is in grind (arith, nat_tests)

-- no path comes before the root's
not_before_root : (path : List ℕ) → IsPath path → comes_before path (1 ∷ []) ≡ false
not_before_root [] is = absurd (let some = is.some in omega arith)
not_before_root (x ∷ path) is = let none = nothing_before path in
    let least : 1 ≤ x = is.steps.0.0 in grind (arith, nat_tests)
  where
    nothing_before : (path : List ℕ) → comes_before path [] ≡ false
    nothing_before [] = refl
    nothing_before (y ∷ path) = refl

-- a raised count leaves the root the root
raised_root : (parent : Option ℕ) (row : Page) → IsRootRow row → IsRootRow (raised parent row)
raised_root parent row root = by (is_parent row.id parent)
  where
    by : (t : Bool) → IsRootRow (cond t (with_kid row) row)
    by true = record {
      id_is = root.id_is;
      no_parent = root.no_parent;
      path_is =
          root.path_is;
      no_slug = root.no_slug;
    }
    by false = root

-- the root stays the first row
root_first : (new : Page) (p : ℕ) (pages : List Page) → IsPath new.path → new.parent ≡ Some p →
    StartsAtRoot pages → StartsAtRoot (with_row new pages)
root_first new p [] path is root = absurd root
root_first new p (row ∷ rows) path is root =
    let own = raised_root new.parent row root.0 in
    let behind : comes_before new.path (raised new.parent row).path ≡ false =
    rw own.path_is (not_before_root new.path path) in
    rw behind (
      own,
      All-insert_in_order (λ later. IsSome later.parent) new (raise_count new.parent
          rows) (rw is (search rules)) (All-raise_count (λ later. IsSome later.parent) new.parent (λ
          row h. h) rows root.1),
    )

-- the child count of a page with as many kids, or with one more
counted : (parent : Option ℕ) (row : Page) (kids all : ℕ) (t : Bool) → is_parent row.id parent ≡ t →
    row.numchild ≡ kids → all ≡ cond t (kids + 1) kids → (raised parent row).numchild ≡ all
counted parent row kids all true test is more = rw test (ap (λ n. n + 1) is ∙ sym more)
counted parent row kids all false test is more = rw test (is ∙ sym more)

module _ (pages : List Page) (new : Page) (p : ℕ) (are : ArePages pages) (can : CanBeAdded pages new p) where
  -- the pages with a raised count
  abbrev rest : List Page
  rest = raise_count new.parent pages

  -- all pages
  abbrev all : List Page
  all = with_row new pages

  -- no other page has the new path
  paths_differ : AllByRecursion (λ row. row.path ≡ new.path → ⊥) rest
  paths_differ = All-raise_count (λ row. row.path ≡ new.path → ⊥) new.parent (λ row h. h) pages can.new_path

  -- nor the new id
  ids_differ : AllByRecursion (λ row. row.id ≡ new.id → ⊥) rest
  ids_differ = All-raise_count (λ row. row.id ≡ new.id →
      ⊥) new.parent (λ row h. h) pages (other_ids new.id pages can.new_id)

  -- nor the new slug below the parent
  slugs_differ : AllByRecursion (λ row. row.parent ≡ new.parent → row.slug ≡ new.slug → ⊥) rest
  slugs_differ =
      let none = all_fail_from_find (λ row. is_parent p row.parent && bytes_eq row.slug new.slug)
      pages (none_from_map (λ (r : Page). r.id) _ can.free_slug) in
      All-raise_count (λ row. row.parent ≡ new.parent → row.slug ≡ new.slug → ⊥) new.parent (λ row h. h) pages
      (All-weaker (λ row. is_parent p row.parent && bytes_eq row.slug new.slug ≡ false) (λ row.
      row.parent ≡ new.parent → row.slug ≡ new.slug →
      ⊥) (λ row fails same slug. clash row.parent row.slug (same ∙ can.parent_is) slug fails)
      pages none)
    where
      clash : (q : Option ℕ) (slug : List ℕ) → q ≡ Some p → slug ≡ new.slug →
          is_parent p q && bytes_eq slug new.slug ≡ false → ⊥
      clash q slug same is fails =
          let self : nat_eq p p ≡ true = grind (arith, nat_tests) in
          let h = rw (same, is, self, bytes_eq-self new.slug) at fails in cc

  -- the rest is in order
  rest_in_order : EachPair IsBefore rest
  rest_in_order = EachPair-raise_count IsBefore new.parent (λ row later h. h) (λ row later h. h)
      pages are.in_order

  -- and so are all
  all_in_order : EachPair IsBefore all
  all_in_order =
      EachPair-insert_in_order IsBefore new rest rest_in_order (All-always (λ row. comes_before
      new.path row.path ≡ true → IsBefore new row) (λ row h. h) rest)
      (All-weaker (λ row. row.path ≡ new.path → ⊥) (λ row. comes_before new.path row.path ≡ false →
      IsBefore row new) (λ row differ h. comes_before-other new.path row.path (λ e. differ (sym
      e)) h) rest paths_differ) rest_in_order

  -- each has its own id
  all_own_ids : EachPair HasOtherId all
  all_own_ids =
      EachPair-insert_in_order HasOtherId new rest rest_in_order (All-weaker (λ row. row.id ≡ new.id
      → ⊥) (λ row. comes_before new.path row.path ≡ true →
      HasOtherId new row) (λ row differ h. differ) rest ids_differ)
      (All-weaker (λ row. row.id ≡ new.id → ⊥) (λ row. comes_before new.path row.path ≡ false →
      HasOtherId row new) (λ row differ h e. differ (sym e)) rest ids_differ)
      (EachPair-raise_count HasOtherId new.parent (λ row later h. h) (λ row later h. h) pages are.own_ids)

  -- and its own slug below its parent
  all_own_slugs : EachPair HasOtherSlug all
  all_own_slugs =
      EachPair-insert_in_order HasOtherSlug new rest rest_in_order (All-weaker (λ row. row.parent ≡
      new.parent → row.slug ≡ new.slug → ⊥) (λ row. comes_before new.path row.path ≡ true →
      HasOtherSlug new row) (λ row differ h. differ) rest slugs_differ)
      (All-weaker (λ row. row.parent ≡ new.parent → row.slug ≡ new.slug →
      ⊥) (λ row. comes_before new.path row.path ≡ false →
      HasOtherSlug row new) (λ row differ h e f. differ (sym e) (sym f)) rest slugs_differ)
      (EachPair-raise_count HasOtherSlug new.parent (λ row later h. h) (λ row later h. h) pages are.own_slugs)

  -- what a page's parent is stays as it is
  parent_id-with_row : (path : List ℕ) → bytes_eq new.path (above path) ≡ false →
      parent_id path all ≡ parent_id path pages
  parent_id-with_row path fails =
      let test : Page → Bool = λ row. bytes_eq row.path (above path) in
      ap (λ o. option_map (λ (r : Page). r.id) o) (find-insert_fails test (λ row. refl) new rest
      fails ∙ find-raise_count test (λ row. refl) new.parent pages) ∙ id_of_raised new.parent
      (find test pages)

  -- each page's parent is the one with the path above it
  all_parents : AllByRecursion (λ row. row.parent ≡ parent_id row.path all) all
  all_parents =
      let apart = apart_from_parents new.path pages can.path_is.some are can.new_path in
      let own : bytes_eq new.path (above new.path) ≡ false =
      apart_from_parent new.path new.path pages can.new_path (rw can.found_parent (search
      rules)) in
      All-insert_in_order (λ row. row.parent ≡ parent_id row.path all) new rest (can.parent_is ∙ sym
      can.found_parent ∙ sym (parent_id-with_row new.path own))
      (All-raise_count (λ row. row.parent ≡ parent_id row.path all) new.parent (λ row h. h) pages
      (All-both (λ row. row.parent ≡ parent_id row.path pages) (λ row. bytes_eq new.path (above
      row.path) ≡ false) (λ row. row.parent ≡ parent_id row.path all) (λ row is fails. is ∙ sym
      (parent_id-with_row row.path fails)) pages are.parents apart))

  -- the parent has one kid more
  kids_in-with_row : (id : ℕ) →
      length (kids_in id all) ≡ cond (nat_eq p id) (length (kids_in id pages) + 1) (length (kids_in
      id pages))
  kids_in-with_row id =
      let test : Page → Bool = λ row. is_parent id row.parent in
      let counted = count-insert test (λ row. refl) new rest in
      let kept = count-raise_count test (λ row. refl) new.parent pages in
      rw (length-map, length-map) (counted ∙ by (nat_eq p id) refl kept)
    where
      by : (t : Bool) → nat_eq p id ≡ t →
          length (filter (λ (row : Page). is_parent id row.parent) rest) ≡ length (filter (λ (row :
          Page). is_parent id row.parent) pages) →
          length (filter (λ (row : Page). is_parent id row.parent) (new ∷ rest)) ≡ cond (nat_eq p
          id) (length (filter (λ (row : Page). is_parent id row.parent) pages) + 1) (length (filter
          (λ (row : Page). is_parent id row.parent) pages))
      by true e kept = rw (can.parent_is, e) (rw add-one (ap suc kept))
      by false e kept = rw (can.parent_is, e) kept

  -- each page's child count is the number of its kids
  all_counts : AllByRecursion (λ row. row.numchild ≡ length (kids_in row.id all)) all
  all_counts =
      All-insert_in_order (λ row. row.numchild ≡ length (kids_in row.id all)) new rest
      (can.childless ∙ sym none)
      (All-map (λ row. row.numchild ≡ length (kids_in row.id all)) (raised new.parent) pages
      (All-weaker (λ row. row.numchild ≡ length (kids_in row.id pages)) (λ row. (raised new.parent
      row).numchild ≡ length (kids_in (raised new.parent row).id all)) (λ row is. rw (raised-id
      new.parent row) (count row is)) pages are.counts))
    where
      none : length (kids_in new.id all) ≡ 0
      none =
          let others = other_ids new.id pages can.new_id in
          let differ = parent_is_page new.path pages new.id p others can.found_parent in
          let test : nat_eq p new.id ≡ false = grind (arith, nat_tests) in
          kids_in-with_row new.id ∙ rw (
            test,
            length-map,
          ) (filter_none (λ (row : Page). is_parent new.id row.parent) pages (no_kids
          new.id pages others are.parents))

      count : (row : Page) → row.numchild ≡ length (kids_in row.id pages) →
          (raised new.parent row).numchild ≡ length (kids_in row.id all)
      count row is = counted new.parent row (length (kids_in row.id pages)) (length (kids_in row.id
          all)) (nat_eq p row.id) (rw can.parent_is refl) is (kids_in-with_row row.id)

  -- they are the rows of a tree again
  pub are_pages-with_row : ArePages all
  are_pages-with_row = record {
    root = root_first new p pages can.path_is can.parent_is are.root;
    ids_fit = All-insert_in_order (λ row. IsPageId row.id) new rest can.id_fits (All-raise_count (λ
        row. IsPageId row.id) new.parent (λ row h. h) pages are.ids_fit);
    paths = All-insert_in_order (λ row. IsPath row.path) new rest can.path_is (All-raise_count (λ
        row. IsPath row.path) new.parent (λ row h. h) pages are.paths);
    in_order = all_in_order;
    own_ids = all_own_ids;
    parents = all_parents;
    counts = all_counts;
    own_slugs = all_own_slugs;
  }

-- The page above a page, among the rows of a tree.
use Rattle.std.proofs.Common.{◌≡◌, ℕ, ◌-◌, ◌<◌, ◌≤◌, Bool, true, false, cond, nat_eq, List, [], ◌∷◌, ◌++◌, Option, Some, None, IsSome, find, length, drop, refl, ap, sym, ◌∙◌, arith, rules, take-append-drop, length-take-le}
use Rattle.std.proofs.lemmas.Bool.Decides.{nat_tests}
use Rattle.std.specs.Option.{option_map, option_and_then}
use Rattle.std.specs.Str.{bytes_eq}
use Rattle.page_tree.specs.Rows.{row_with}
use Rattle.step_path.specs.Path.{BeginsWith, IsPath}
use Rattle.site_types.specs.Ids.{IsPageId}
use Rattle.page_store.specs.PageRows.{parent_id, above}
use Rattle.page_store.specs.Pages.{Page, StartsAtRoot, ArePages}
use Rattle.page_store.proofs.InsertLemmas.{same_bytes}
use Rattle.page_store.proofs.SeenLemmas.{found_by_own_id, All-find}

-- what is found passes the test
pub find_passes : {X : Type 0} (test : X → Bool) (xs : List X) (x : X) → find test xs ≡ Some x →
    test x ≡ true
find_passes test [] x found = absurd cc
find_passes test (y ∷ xs) x found = by (test y) refl found (find_passes test xs x)
  where
    by : (t : Bool) → test y ≡ t → cond t (Some y) (find test xs) ≡ Some x →
        (find test xs ≡ Some x → test x ≡ true) → test x ≡ true
    by true e found more = let same : y ≡ x = cc in ap test (sym same) ∙ e
    by false e found more = more found

-- each page but the root has a parent
later_parent : (id : ℕ) (rows : List Page) (row : Page) → StartsAtRoot rows →
    row_with id rows ≡ Some row → (id ≡ 1 → ⊥) → IsSome row.parent
later_parent id [] row start found other = absurd start
later_parent id (root ∷ rows) row start found other = by (nat_eq root.id id) refl found
  where
    by : (t : Bool) → nat_eq root.id id ≡ t → cond t (Some root) (row_with id rows) ≡ Some row →
        IsSome row.parent
    by true e found =
        let same : root.id ≡ id = grind (arith, nat_tests) in
        absurd (other (sym same ∙ start.0.id_is))
    by false e found =
        All-find (λ (later : Page). IsSome later.parent) (λ (later : Page). nat_eq later.id id) rows
        row start.1 found

-- The parent of a page among the rows.
pub record HasParent (pages : List Page) (row : Page) : Type 0 where
  pub parent : ℕ
  pub above : Page
  pub parent_is : row.parent ≡ Some parent
  pub some : 1 ≤ parent
  pub found : row_with parent pages ≡ Some above
  pub begins : BeginsWith above.path row.path
  pub shorter : length above.path < length row.path

-- what the parent is, where there is one
parent_row : (pages : List Page) (row : Page) (found : Option Page) → ArePages pages →
    IsPath row.path → IsSome row.parent →
    find (λ (other : Page). bytes_eq other.path (above row.path)) pages ≡ found →
    row.parent ≡ option_map (λ (other : Page). other.id) found → HasParent pages row
parent_row pages row None are path some found is = absurd (let none = rw is at some in search rules)
parent_row pages row (Some parent) are path some found is =
    let path_is = same_bytes parent.path (above row.path)
    (find_passes (λ (other : Page). bytes_eq other.path (above row.path)) pages parent found) in
    let long = path.some in
    let short = length-take-le (length row.path - 1) row.path (omega arith) in
    let long_parent = ap length path_is in
    record {
      parent = parent.id;
      above = parent;
      parent_is = is;
      some = (All-find (λ (other : Page). IsPageId other.id)
          (λ (other : Page). bytes_eq other.path (above row.path)) pages parent are.ids_fit
          found).0;
      found = All-find (λ (other : Page). row_with other.id pages ≡ Some other)
          (λ (other : Page). bytes_eq other.path (above row.path)) pages parent
          (found_by_own_id pages are.own_ids) found;
      begins = (
        drop (length row.path - 1) row.path,
        ap (λ xs. xs ++ drop (length row.path - 1) row.path) path_is
            ∙ take-append-drop (length row.path - 1) row.path,
      );
      shorter = omega arith;
    }

-- each page but the root has its parent's row among the rows
pub has_parent : (pages : List Page) (id : ℕ) (row : Page) → ArePages pages →
    row_with id pages ≡ Some row → (id ≡ 1 → ⊥) → HasParent pages row
has_parent pages id row are found other =
    parent_row pages row (find (λ (other : Page). bytes_eq other.path (above row.path)) pages) are
    (All-find (λ (r : Page). IsPath r.path) (λ (r : Page). nat_eq r.id id) pages row are.paths
    found) (later_parent id pages row are.root found other) refl
    (All-find (λ (r : Page). r.parent ≡ parent_id r.path pages) (λ (r : Page). nat_eq r.id id)
    pages row are.parents found)

-- the page above a page is told by its row
pub parent_there : (pages : List Page) (id : ℕ) (parent : Option ℕ) → ArePages pages →
    IsSome (row_with id pages) → (id ≡ 1 → ⊥) →
    parent ≡ option_and_then (λ (row : Page). row.parent) (row_with id pages) →
    (q : ℕ) × (parent ≡ Some q) × IsSome (row_with q pages)
parent_there pages id parent are there other is = by (row_with id pages) refl there is
  where
    by : (o : Option Page) → row_with id pages ≡ o → IsSome o →
        parent ≡ option_and_then (λ (row : Page). row.parent) o →
        (q : ℕ) × (parent ≡ Some q) × IsSome (row_with q pages)
    by None e there is = absurd (search rules)
    by (Some row) e there is =
        let has = has_parent pages id row are e other in
        (has.parent, is ∙ has.parent_is, rw has.found refl)

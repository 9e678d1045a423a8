-- The rows of a tree have the URLs of the walk: each is that of the page above, a slug and `/`.
use Rattle.std.proofs.Common.{◌≡◌, ℕ, ◌+◌, ◌<◌, nat_eq, List, [], ◌∷◌, ◌++◌, Option, Some, None, find, length, refl, ap, sym, ◌∙◌, subst, arith, length-append}
use Rattle.std.proofs.lemmas.Bool.Decides.{nat_tests}
use Rattle.std.specs.List.{AllByRecursion}
use Rattle.std.specs.Option.{option_map, option_map_or}
use Rattle.std.specs.Str.{bytes_eq}
use Rattle.page_tree.specs.Tree.{Forest, bare, grown}
use Rattle.page_tree.specs.Rows.{child_url, rows_below, rows_of, row_with}
use Rattle.step_path.specs.Path.{IsPath}
use Rattle.site_types.specs.declared.body.Body.{Body}
use Rattle.page_store.specs.PageRows.{above, parent_id}
use Rattle.page_store.specs.Pages.{Page, ArePages}
use Rattle.page_store.proofs.AllLemmas.{All-append}
use Rattle.page_store.proofs.InsertLemmas.{same_bytes}
use Rattle.page_store.proofs.SeenLemmas.{found_by_own_id, All-find}
use Rattle.page_store.proofs.KeptLemmas.{found_passes}
use Rattle.page_store.proofs.WindowLemmas.{last_step_of}
use Rattle.slug_urls.specs.Urls.{url_above, HasUrl}
pub use Rattle.page_tree.proofs.ListLemmas.{all_parts}

-- the rows below a page have their URLs, where each row is found by its id
urls_below : (pages : List Page) (parent : Option ℕ) (path url : List ℕ) (forest : Forest Body) →
    url_above parent pages ≡ url →
    AllByRecursion (λ row. row_with row.id pages ≡ Some row) (rows_below parent path url forest) →
    AllByRecursion (HasUrl pages) (rows_below parent path url forest)
urls_below pages parent path url bare up own = tt
urls_below pages parent path url (grown i step slug body kids rest) up own =
    let parts = all_parts (λ (row : Page). row_with row.id pages ≡ Some row)
    (rows_below (Some i) (path ++ step ∷ []) (child_url url slug) kids)
    (rows_below parent path url rest) own.1 in (
      ap (λ u. child_url u slug) (sym up),
      All-append (HasUrl pages) (rows_below (Some i) (path ++ step ∷ []) (child_url url slug) kids)
          (rows_below parent path url rest)
          (urls_below pages (Some i) (path ++ step ∷ []) (child_url url slug) kids
          (ap (λ (o : Option Page). option_map_or (λ (row : Page). row.url) o []) own.0) parts.0)
          (urls_below pages parent path url rest up parts.1),
    )

-- the rows of a tree have their URLs
pub urls_of_tree : (pages : List Page) (tree : Forest Body) → ArePages pages → pages ≡ rows_of tree →
    AllByRecursion (HasUrl pages) pages
urls_of_tree pages tree are is =
    let own = subst (λ rows. AllByRecursion (λ (row : Page). row_with row.id pages ≡ Some row) rows) is
    (found_by_own_id pages are.own_ids) in
    subst (λ rows. AllByRecursion (HasUrl pages) rows) (sym is) (urls_below pages None [] [] tree refl own)

-- the page above a page: it is there, and its path is shorter
pub record IsAbove (pages : List Page) (p : ℕ) (row : Page) : Type 0 where
  pub top : Page
  pub found : row_with p pages ≡ Some top
  pub path_is : top.path ≡ above row.path
  pub shorter : length top.path + 1 ≡ length row.path

module _ (pages : List Page) (are : ArePages pages) (id : ℕ) (row : Page)
    (found : row_with id pages ≡ Some row) where
  -- a page that is found has its own id
  pub own_id : row.id ≡ id
  own_id =
      let test = found_passes (λ (r : Page). nat_eq r.id id) pages row found in grind (arith, nat_tests)

  -- a page with a parent has a page above it
  pub page_above : (p : ℕ) → row.parent ≡ Some p → IsAbove pages p row
  page_above p is =
      let parent = All-find (λ (r : Page). r.parent ≡ parent_id r.path pages)
      (λ (r : Page). nat_eq r.id id) pages row are.parents found in
      let path = All-find (λ (r : Page). IsPath r.path) (λ (r : Page). nat_eq r.id id) pages row
      are.paths found in
      by path.some (find (λ (r : Page). bytes_eq r.path (above row.path)) pages) refl (sym parent ∙ is)
    where
      by : 0 < length row.path → (o : Option Page) →
          find (λ (r : Page). bytes_eq r.path (above row.path)) pages ≡ o →
          option_map (λ (r : Page). r.id) o ≡ Some p → IsAbove pages p row
      by some None e h = absurd cc
      by some (Some top) e h =
          let one : top.id ≡ p = cc in
          let own : row_with top.id pages ≡ Some top =
          All-find (λ (r : Page). row_with r.id pages ≡ Some r)
          (λ (r : Page). bytes_eq r.path (above row.path)) pages top
          (found_by_own_id pages are.own_ids) e in
          let path_is = same_bytes top.path (above row.path)
          (found_passes (λ (r : Page). bytes_eq r.path (above row.path)) pages top e) in
          let last = last_step_of row.path some in
          let long : length row.path ≡ length (above row.path) + 1 =
          ap length last.1 ∙ length-append (above row.path) (last.0 ∷ []) in
          record {
            top = top;
            found = subst (λ n. row_with n pages ≡ Some top) one own;
            path_is = path_is;
            shorter = ap (λ (path : List ℕ). length path + 1) path_is ∙ sym long;
          }

  -- the URL of a page below another, by that one's
  pub url_down : AllByRecursion (HasUrl pages) pages → (p : ℕ) → row.parent ≡ Some p →
      (top : Page) → row_with p pages ≡ Some top → row.url ≡ child_url top.url row.slug
  url_down urls p is top there =
      let own = All-find (HasUrl pages) (λ (r : Page). nat_eq r.id id) pages row urls found in
      own ∙ (ap (λ (o : Option ℕ). child_url (url_above o pages) row.slug) is
      ∙ ap (λ (o : Option Page). child_url (option_map_or (λ (r : Page). r.url) o []) row.slug) there)

  -- and that of a page below none
  pub url_alone : AllByRecursion (HasUrl pages) pages → row.parent ≡ None →
      row.url ≡ child_url [] row.slug
  url_alone urls is =
      All-find (HasUrl pages) (λ (r : Page). nat_eq r.id id) pages row urls found
      ∙ ap (λ (o : Option ℕ). child_url (url_above o pages) row.slug) is

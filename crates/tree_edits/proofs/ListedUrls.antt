-- The list of the URLs that change names pages that were there, each once.
use Rattle.std.proofs.Common.{◌≡◌, ℕ, Bool, true, false, not, cond, nat_eq, List, [], ◌∷◌, Some, None, IsSome, is_some, map, filter, refl, sym, ap, ◌∙◌, subst, arith}
use Rattle.std.specs.List.{AllByRecursion, IsDistinct}
use Rattle.std.specs.Str.{bytes_eq}
use Rattle.page_tree.specs.Tree.{Forest, HasDistinctIds, has_page}
use Rattle.page_tree.specs.Rows.{rows_of, row_with}
use Rattle.page_tree.proofs.RowLemmas.{has_page-rows}
use Rattle.site_types.specs.declared.body.Body.{Body}
use Rattle.tree_model.specs.Changes.{url_in, changed_urls}
use Rattle.tree_model.specs.Renames.{renamed}
use Rattle.tree_model.proofs.CountLemmas.{has_counts, counts_has}
use Rattle.tree_model.proofs.RenameLemmas.{count-renamed}
use Rattle.page_store.specs.Pages.{Page, EachPair, HasOtherId}
use Rattle.page_store.specs.Relabelling.{AreListed}
use Rattle.page_store.proofs.AllLemmas.{All-map, All-weaker}
use Rattle.page_store.proofs.SeenLemmas.{found_by_own_id}
use Rattle.path_moves.proofs.ApplyAfter.{distinct_rows}
use Rattle.new_pages.proofs.ReplyLemmas.{own_ids_of}
use Rattle.tree_edits.proofs.SlugTree.{distinct-renamed}

-- what holds of each row holds of each of some
all_some : (P : Page → Type 0) (keep : Page → Bool) (rows : List Page) → AllByRecursion P rows →
    AllByRecursion P (filter keep rows)
all_some P keep [] all = tt
all_some P keep (row ∷ rows) all = by (keep row) (all_some P keep rows all.1)
  where
    by : (t : Bool) → AllByRecursion P (filter keep rows) →
        AllByRecursion P (cond t (row ∷ filter keep rows) (filter keep rows))
    by true more = (all.0, more)
    by false more = more

-- the ids of some of these rows are apart where those of all are
own_some : (keep : Page → Bool) (rows : List Page) → EachPair HasOtherId rows →
    EachPair HasOtherId (filter keep rows)
own_some keep [] own = tt
own_some keep (row ∷ rows) own = by (keep row) (own_some keep rows own.1)
  where
    by : (t : Bool) → EachPair HasOtherId (filter keep rows) →
        EachPair HasOtherId (cond t (row ∷ filter keep rows) (filter keep rows))
    by true more = (all_some (HasOtherId row) keep rows own.0, more)
    by false more = more

-- each pair of an id and a URL has the row's id
ids_of_pairs : (rows : List Page) →
    map (λ (pair : ℕ × List ℕ). pair.0) (map (λ (row : Page). (row.id, row.url)) rows)
    ≡ map (λ (row : Page). row.id) rows
ids_of_pairs [] = refl
ids_of_pairs (row ∷ rows) = ap (λ ids. row.id ∷ ids) (ids_of_pairs rows)

-- the pages whose URL changes were there, each listed once
pub changed_listed : (before after : List Page) → EachPair HasOtherId after →
    AllByRecursion (λ (row : Page). IsSome (row_with row.id before)) after →
    AreListed before (changed_urls before after)
changed_listed before after own there =
    let keep : Page → Bool = λ row. not (bytes_eq (url_in row.id before) row.url) in
    let some = filter keep after in
    record {
      there = All-map (λ (pair : ℕ × List ℕ). IsSome (row_with pair.0 before))
          (λ (row : Page). (row.id, row.url)) some
          (all_some (λ (row : Page). IsSome (row_with row.id before)) keep after there);
      once = subst (λ ids. IsDistinct nat_eq ids) (sym (ids_of_pairs some))
          (distinct_rows some (own_some keep after own));
    }

module _ (tree : Forest Body) (distinct : HasDistinctIds tree) (page : ℕ) (new : List ℕ) where
  -- the rows before, and those of the tree with the slug
  abbrev before : List Page
  before = rows_of tree

  abbrev later : List Page
  later = rows_of (renamed page new tree)

  -- each page of the tree with the slug was there
  all_there : AllByRecursion (λ (row : Page). IsSome (row_with row.id before)) later
  all_there =
      All-weaker (λ (row : Page). row_with row.id later ≡ Some row)
      (λ (row : Page). IsSome (row_with row.id before))
      (λ row found.
      let there : has_page row.id (renamed page new tree) ≡ true =
      has_page-rows row.id None [] [] (renamed page new tree) ∙ ap is_some found in
      let some = has_counts row.id (renamed page new tree) there in
      let same = count-renamed row.id page new tree in
      sym (has_page-rows row.id None [] [] tree) ∙ counts_has row.id tree (omega (
        arith,
        some,
        same,
      )))
      later (found_by_own_id later
      (own_ids_of (renamed page new tree) (distinct-renamed tree distinct page new)))

  -- the URLs that change are those of pages that were there
  pub slug_listed : AreListed before (changed_urls before later)
  slug_listed =
      changed_listed before later
      (own_ids_of (renamed page new tree) (distinct-renamed tree distinct page new)) all_there

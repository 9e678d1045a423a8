-- The rows of a store where a page got another slug, and then pages their URLs.
use Rattle.std.proofs.Common.{◌≡◌, ℕ, true, not, nat_eq, List, [], ◌∷◌, Option, Some, None, IsSome, map, filter, unwrap_or, refl, sym, ap, ◌∙◌, subst, rules}
use Rattle.std.specs.List.{AllByRecursion, IsDistinct}
use Rattle.std.specs.Option.{option_map}
use Rattle.std.specs.Str.{bytes_eq}
use Rattle.std.specs.Map.{lookup}
use Rattle.page_tree.specs.Rows.{row_with}
use Rattle.tree_model.specs.Changes.{path_in, url_in, with_urls}
use Rattle.page_store.specs.Pages.{Page, ArePages}
use Rattle.page_store.specs.Changes.{with_slug, slug_changed}
use Rattle.page_store.specs.Relabelling.{relabelled_rows, AreListed, first_moved, KeepParents}
use Rattle.page_store.proofs.AllLemmas.{All-map, All-weaker, All-always}
use Rattle.page_store.proofs.ChangeLemmas.{after, find-changed}
use Rattle.page_store.proofs.InsertLemmas.{bytes_eq-self}
use Rattle.page_store.proofs.SeenLemmas.{found_by_own_id}
use Rattle.path_moves.proofs.ApplyMatched.{Stays, relabelled_are}
use Rattle.path_moves.proofs.ApplyPages.{labelled_pages}

-- no path changes where each row is found by its id
no_path : (all rows : List Page) → AllByRecursion (λ (row : Page). row_with row.id all ≡ Some row)
    rows →
    map {B = ℕ × List ℕ} (λ (row : Page). (row.id, row.path))
    (filter (λ (row : Page). not (bytes_eq (path_in row.id all) row.path)) rows) ≡ []
no_path all [] found = refl
no_path all (row ∷ rows) found =
    rw (found.0, bytes_eq-self row.path) (no_path all rows found.1)

module _ (rows : List Page) (are : ArePages rows) (urls : List (ℕ × List ℕ)) where
  -- each row is found by its id
  found : AllByRecursion (λ (row : Page). row_with row.id rows ≡ Some row) rows
  found = found_by_own_id rows are.own_ids

  -- a row that is found stays
  stays : (row : Page) → row_with row.id rows ≡ Some row → Stays rows row
  stays row is = record { old = row; found = is; slug_is = refl; body_is = refl }

  -- what a relabelling of URLs alone leaves
  pub only_urls : relabelled_rows 0 0 0 [] urls rows ≡ with_urls urls rows rows
  only_urls =
      ap (λ paths. relabelled_rows 0 0 0 paths urls rows) (sym (no_path rows rows found))
      ∙ relabelled_are 0 0 0 urls rows rows are are refl
      (All-weaker (λ (row : Page). row_with row.id rows ≡ Some row) (Stays rows) stays rows found)

  -- they are the rows of a store
  pub only_urls_pages : ArePages (relabelled_rows 0 0 0 [] urls rows)
  only_urls_pages =
      subst ArePages (sym only_urls)
      (labelled_pages
      (λ (row : Page). unwrap_or
      (lookup (nat_eq row.id) urls) (url_in row.id rows)) rows are)

  -- each with the parent that it had
  pub only_urls_parents : KeepParents (first_moved 0 0 rows) rows (relabelled_rows 0 0 0 [] urls
      rows)
  only_urls_parents =
      subst (KeepParents (first_moved 0 0 rows) rows) (sym only_urls)
      (All-map (λ (row : Page). (first_moved 0 0 rows ≡ Some row.id → ⊥) →
      option_map (λ (old : Page). old.parent) (row_with row.id rows) ≡ Some row.parent) _ rows
      (All-weaker (λ (row : Page). row_with row.id rows ≡ Some row)
      (λ (row : Page). (first_moved 0 0 rows ≡ Some row.id → ⊥) →
      option_map (λ (old : Page). old.parent) (row_with row.id rows) ≡ Some row.parent)
      (λ row is other. rw is refl) rows found))

-- no page is listed in no list
pub none_listed : (pages : List Page) → AreListed pages []
unfolding IsDistinct
none_listed pages = record { there = tt; once = tt }

-- pages that are listed are so also where a page has another slug
pub listed_after : (id : ℕ) (slug : List ℕ) (pages : List Page) (pairs : List (ℕ × List ℕ)) →
    AreListed pages pairs → AreListed (with_slug id slug pages) pairs
listed_after id slug pages pairs listed =
    record {
      there = All-weaker (λ (pair : ℕ × List ℕ). IsSome (row_with pair.0 pages))
          (λ (pair : ℕ × List ℕ). IsSome (row_with pair.0 (with_slug id slug pages)))
          (λ pair some. still_there pair.0 some) pairs listed.there;
      once = listed.once;
    }
  where
    still_there : (q : ℕ) → IsSome (row_with q pages) → IsSome (row_with q (with_slug id slug
        pages))
    still_there q some =
        some_there (row_with q pages) some (find-changed (λ (row : Page). nat_eq row.id q) id
        (slug_changed slug)
        pages (All-always (λ (r : Page). nat_eq r.id id ≡ true → nat_eq r.id q ≡ nat_eq r.id q)
        (λ r e. refl) pages))
      where
        some_there : (o : Option Page) → IsSome o →
            row_with q (with_slug id slug pages) ≡ option_map (after id (slug_changed slug)) o →
            IsSome (row_with q (with_slug id slug pages))
        some_there None some is = absurd (search (rules, some))
        some_there (Some row) some is = rw is (search rules)

-- What a relabelling leaves: rows moved to another place, pages with other paths and other URLs.
use Rattle.std.specs.Prelude.{◌≡◌, ℕ, ◌+◌, not, is_some, nat_eq, Option, Some, IsSome, unwrap_or}
use Rattle.std.specs.Prelude.{List, ◌++◌, length, map, filter, take, drop, slice_get}
use Rattle.std.specs.Option.{option_map}
use Rattle.std.specs.List.{AllByRecursion, IsDistinct}
use Rattle.std.specs.Map.{lookup}
use Rattle.page_tree.specs.Rows.{row_with, kids_in}
use Rattle.page_store.specs.PageRows.{parent_id}
use Rattle.page_store.specs.Pages.{Page}

-- the rows with n of them, from a place on, moved to a place of those that remain
abbrev pub range_moved : ℕ → ℕ → ℕ → List Page → List Page
range_moved from n to rows =
    let rest = take from rows ++ drop (from + n) rows in
    take to rest ++ (take n (drop from rows) ++ drop to rest)

-- the row with the path and the URL that are listed for its page, where there are such
abbrev pub relisted : List (ℕ × List ℕ) → List (ℕ × List ℕ) → Page → Page
relisted paths urls row =
    record row {
      path = unwrap_or (lookup (nat_eq row.id) paths) row.path;
      url = unwrap_or (lookup (nat_eq row.id) urls) row.url;
    }

-- the row below the page whose path is its own without the last step
abbrev pub reparented : List Page → Page → Page
reparented rows row = record row { parent = parent_id row.path rows }

-- the row with the number of its kids
abbrev pub recounted : List Page → Page → Page
recounted rows row = record row { numchild = length (kids_in row.id rows) }

-- The rows with n of them moved, and with the listed paths and URLs: the parents and the child
-- counts are those of the new paths.
abbrev pub relabelled_rows : ℕ → ℕ → ℕ → List (ℕ × List ℕ) → List (ℕ × List ℕ) → List Page →
    List Page
relabelled_rows from n to paths urls rows =
    let listed = map (relisted paths urls) (range_moved from n to rows) in
    let below = map (reparented listed) listed in
    map (recounted below) below

-- Pages with what they are to get: each is there, and each is listed once.
pub record AreListed (pages : List Page) (pairs : List (ℕ × List ℕ)) : Type 0 where
  pub there : AllByRecursion (λ (pair : ℕ × List ℕ). IsSome (row_with pair.0 pages)) pairs
  pub once : IsDistinct nat_eq (map (λ (pair : ℕ × List ℕ). pair.0) pairs)

-- how many pages are listed in either list, one that is in both counted once
abbrev pub listed_in_either : List (ℕ × List ℕ) → List (ℕ × List ℕ) → ℕ
listed_in_either paths urls =
    length paths
    + length (filter (λ (pair : ℕ × List ℕ). not (is_some (lookup (nat_eq pair.0) paths))) urls)

-- the first of n pages from a place on, where n is not 0
abbrev pub first_moved : ℕ → ℕ → List Page → Option ℕ
first_moved from n pages = option_map (λ row. row.id) (slice_get (take n (drop from pages)) 0)

-- each page of the later rows, but this one, has the parent that it had before
abbrev pub KeepParents : Option ℕ → List Page → List Page → Type 0
KeepParents top before after =
    AllByRecursion
    (λ row. (top ≡ Some row.id → ⊥) →
    option_map (λ old. old.parent) (row_with row.id before) ≡ Some row.parent) after

-- How rows with new paths and URLs are settled: each page below the page above its new path, and
-- the child counts after that.
use Rattle.std.specs.Prelude.{◌≡◌, ℕ, ◌+◌, ◌↔◌, false, nat_eq, Option, Some, None, List, ◌++◌, length, map, take, drop}
use Rattle.std.specs.Option.{option_map, IfSome}
use Rattle.std.specs.List.{AllByRecursion}
use Rattle.std.specs.Map.{lookup}
use Rattle.page_tree.specs.Rows.{row_with, kids_in}
use Rattle.step_path.specs.Path.{path_text}
use Rattle.page_store.specs.declared.stored.StoredRow.{StoredRow}
use Rattle.page_store.specs.PageRows.{parent_id}
use Rattle.page_store.specs.Pages.{Page, HasOtherSlug, ArePages}
use Rattle.page_store.specs.Kept.{seen, IsStored}
use Rattle.page_store.specs.Relabelling.{reparented, recounted}

-- a list with n elements, from a place on, moved to a place of those that remain
abbrev pub items_moved : {X : Type 0} → ℕ → ℕ → ℕ → List X → List X
items_moved from n to xs =
    let rest = take from xs ++ drop (from + n) xs in
    take to rest ++ (take n (drop from xs) ++ drop to rest)

-- what is kept of a page, with this path
abbrev pub path_put : List ℕ → StoredRow → StoredRow
path_put path stored =
    record stored { row = record stored.row { path = path_text path; depth = length path } }

-- what is kept of a page, with this URL
abbrev pub url_put : List ℕ → StoredRow → StoredRow
url_put url stored = record stored { url = url }

-- what is kept of a page, below this one
abbrev pub parent_put : ℕ → StoredRow → StoredRow
parent_put parent stored = record stored { parent = Some parent }

-- the row below this page
abbrev pub under : ℕ → Page → Page
under parent row = record row { parent = Some parent }

-- what is kept, with what is listed for it
abbrev pub listed_put : (List ℕ → StoredRow → StoredRow) → Option (List ℕ) → StoredRow → StoredRow
listed_put put None stored = stored
listed_put put (Some text) stored = put text stored

-- the rows below the pages above their paths, with the numbers of their kids
abbrev pub settled : List Page → List Page
settled rows = let below = map (reparented rows) rows in map (recounted below) below

-- What is kept stands for these rows, but for the parents, the child counts and the kids by slug.
pub record IsListed (stored : List (ℕ × StoredRow)) (order : List ℕ) (rows : List Page) : Type 0 where
  pub ids : map (λ row. row.id) rows ≡ order
  pub found : (id : ℕ) → row_with id rows ≡ option_map seen (lookup (nat_eq id) stored)
  pub texts : (id : ℕ) → IfSome (lookup (nat_eq id) stored) IsStored
  pub are_pages : ArePages (settled rows)

-- Rows that are to be settled: each page but the one at the top of what moved has its parent, the
-- root alone has none, and the child counts are those of the parents that are kept.
pub record CanSettle (top : Option ℕ) (rows : List Page) : Type 0 where
  pub rooted : AllByRecursion (λ row. row.parent ≡ None ↔ row.id ≡ 1) rows
  pub others : AllByRecursion (λ row. (top ≡ Some row.id → ⊥) → row.parent ≡ parent_id row.path
      rows) rows
  pub counts : AllByRecursion (λ row. row.numchild ≡ length (kids_in row.id rows)) rows
  pub apart : (id : ℕ) (row : Page) → row_with id rows ≡ Some row →
      AllByRecursion (λ other. nat_eq other.id id ≡ false → HasOtherSlug row other) rows

-- How the store keeps its rows: by id, with the ids in path order, and the kids of each page by slug.
use Rattle.std.specs.Prelude.{◌≡◌, ℕ, ◌+◌, false, nat_eq, Option, Some, None, List, [], ◌∷◌, map, length}
use Rattle.std.specs.Option.{option_map, IfSome}
use Rattle.std.specs.Map.{lookup}
use Rattle.page_tree.specs.Walk.{SLASH}
use Rattle.page_tree.specs.Rows.{row_with}
use Rattle.step_path.specs.Path.{path_text, steps_of, IsPathText}
use Rattle.site_types.specs.RootBody.{root_body}
use Rattle.page_store.specs.declared.stored.StoredRow.{StoredRow}
use Rattle.page_store.specs.declared.kid_index.KidIndex.{KidIndex}
use Rattle.page_store.specs.PageRows.{seen_row}
use Rattle.page_store.specs.KidIndex.{IsIndex, keys_of}
use Rattle.page_store.specs.Pages.{Page, ArePages}

-- what is kept of a page, as a row
abbrev pub seen : StoredRow → Page
seen stored = seen_row stored.row stored.parent stored.url

-- the row that is kept, where there is one, before others
abbrev pub seen_before : Option StoredRow → List Page → List Page
seen_before None rows = rows
seen_before (Some stored) rows = seen stored ∷ rows

-- the rows that are kept of these ids, in their order
abbrev pub rows_seen : List (ℕ × StoredRow) → List ℕ → List Page
rows_seen stored [] = []
rows_seen stored (id ∷ ids) = seen_before (lookup (nat_eq id) stored) (rows_seen stored ids)

-- what is kept of a page with one child more
abbrev pub kid_added : StoredRow → StoredRow
kid_added stored = record stored { row = record stored.row { numchild = stored.row.numchild + 1 } }

-- a row that is kept has the text of a path and the number of its steps beside it, and no step is
-- counted for it
pub record IsStored (stored : StoredRow) : Type 0 where
  pub path_is : IsPathText stored.row.path
  pub depth_is : stored.row.depth ≡ length (steps_of stored.row.path)
  pub not_counted : stored.counted ≡ false

-- The rows by id, the ids in their order and the index of the kids stand for these rows.
pub record IsKept (stored : List (ℕ × StoredRow)) (order : List ℕ) (kids : KidIndex) (pages :
    List Page) : Type 0 where
  pub ids : map (λ row. row.id) pages ≡ order
  pub found : (id : ℕ) → row_with id pages ≡ option_map seen (lookup (nat_eq id) stored)
  pub texts : (id : ℕ) → IfSome (lookup (nat_eq id) stored) IsStored
  pub indexed : IsIndex kids (keys_of stored)
  pub are_pages : ArePages pages

-- what is kept of the root of a new tree
pub record IsRootPage (page : StoredRow) : Type 0 where
  pub id_is : page.row.id ≡ 1
  pub no_parent : page.parent ≡ None
  pub not_counted : page.counted ≡ false
  pub path_is : page.row.path ≡ path_text (1 ∷ [])
  pub depth_is : page.row.depth ≡ 1
  pub url_is : page.url ≡ SLASH ∷ []
  pub no_slug : page.row.slug ≡ []
  pub no_kids : page.row.numchild ≡ 0
  pub body_is : page.row.body ≡ root_body

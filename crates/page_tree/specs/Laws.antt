-- The laws of the tree and its rows, each proved in src/laws.rt. A page's body is a number here;
-- the lemmas hold whatever it is.
use Rattle.std.specs.Prelude.{◌≡◌, ℕ, ◌+◌, List, [], ◌∷◌, Some, is_some}
use Rattle.std.specs.List.{AllByRecursion}
use Rattle.page_tree.specs.Tree.{Forest, bare, grown, End, AllIds, AreRising, HasDistinctIds, has_page, last_step, graft}
use Rattle.page_tree.specs.Walk.{SLASH, path_of, url_of}
use Rattle.page_tree.specs.Rows.{Row, child_url, row_with, rows_of, with_row}

-- a whole tree: the root's id is 1, its step is 1 and its slug is empty
abbrev pub tree_with : ℕ → Forest ℕ → Forest ℕ
tree_with own kids = grown 1 1 [] own kids bare

-- a page with no page below it, standing alone
abbrev pub page_alone : ℕ → ℕ → List ℕ → ℕ → Forest ℕ
page_alone id step slug body = grown id step slug body bare bare

-- the path of a page below the root after one with this step
abbrev pub path_after : ℕ → List ℕ
path_after last = 1 ∷ (last + 1) ∷ []

-- the row of a page below the root after one with this step
abbrev pub row_after : ℕ → ℕ → List ℕ → ℕ → Row ℕ
row_after last id slug body = record {
  id = id;
  parent = Some 1;
  path = path_after last;
  url = child_url (SLASH ∷ []) slug;
  slug = slug;
  numchild = 0;
  body = body;
}

-- a page is in the tree exactly where it has a row
abbrev pub PagesHaveRows : Type 0
PagesHaveRows = (id : ℕ) (tree : Forest ℕ) → has_page id tree ≡ is_some (row_with id (rows_of tree))

-- a page appended below the root gives the rows with the new one in its place
abbrev pub AppendAddsRow : Type 0
AppendAddsRow =
    (id step : ℕ) (slug : List ℕ) (body own : ℕ) (kids : Forest ℕ) →
    AllIds (λ i. i ≡ 1 → ⊥) kids → AreRising 0 kids →
    rows_of (graft 1 End (page_alone id step slug body) (tree_with own kids))
    ≡ with_row (row_after (last_step 0 kids) id slug body) (rows_of (tree_with own kids))

-- the path of a page appended below the root, whose id is new, ends with the last sibling's step
-- plus one
abbrev pub AppendedPath : Type 0
AppendedPath =
    (id step : ℕ) (slug : List ℕ) (body own : ℕ) (kids : Forest ℕ) →
    (id ≡ 1 → ⊥) → AllIds (λ i. i ≡ id → ⊥) kids →
    path_of id (graft 1 End (page_alone id step slug body) (tree_with own kids))
    ≡ path_after (last_step 0 kids)

-- the URL of a page appended below the root, whose id is new, is `/`, its slug and `/`
abbrev pub AppendedUrl : Type 0
AppendedUrl =
    (id step : ℕ) (slug : List ℕ) (body own : ℕ) (kids : Forest ℕ) →
    (id ≡ 1 → ⊥) → AllIds (λ i. i ≡ id → ⊥) kids →
    url_of id (graft 1 End (page_alone id step slug body) (tree_with own kids))
    ≡ child_url (SLASH ∷ []) slug

-- where no two pages have one id, each row's path and URL are those of the walk to its id
abbrev pub RowsTellWalks : Type 0
RowsTellWalks =
    (own : ℕ) (kids : Forest ℕ) → HasDistinctIds (tree_with own kids) →
    AllByRecursion (λ (row : Row ℕ).
    (path_of row.id (tree_with own kids) ≡ row.path)
    × (url_of row.id (tree_with own kids) ≡ row.url)) (rows_of (tree_with own kids))

-- What the store of rows is seen as: the rows of a tree in path order, as django-treebeard keeps
-- them, with URLs.
use Rattle.std.specs.Prelude.{◌≡◌, ℕ, Option, Some, None, IsSome, ◌-◌, ◌+◌, ◌≤◌, List, [], ◌∷◌}
use Rattle.std.specs.Prelude.{length, take, drop, find, slice_get}
use Rattle.std.specs.Option.{option_map, IfSome}
use Rattle.std.specs.List.{AllByRecursion}
use Rattle.std.specs.Str.{bytes_eq}
use Rattle.page_tree.specs.Walk.{SLASH}
use Rattle.page_tree.specs.Rows.{Row, row_with, kid_named}
use Rattle.step_path.specs.Path.{path_text, steps_of, IsPathText, BeginsWith}
use Rattle.site_types.specs.RootBody.{root_body}
use Rattle.site_types.specs.declared.body.Body.{Body}
use Rattle.site_types.specs.declared.page_row.PageRow.{PageRow}

-- The rows in path order, and how many more can be put in without taking memory.
pub record RowList : Type 0 where
  pub pages : List (Row Body)
  pub spare : ℕ

-- a row as the site keeps it: the text of its path, and its depth, in place of its steps
abbrev pub page_row : Row Body → PageRow
page_row row =
    record {
      id = row.id;
      path = path_text row.path;
      depth = length row.path;
      numchild = row.numchild;
      slug = row.slug;
      body = row.body;
    }

-- the row that a kept one is seen as, below this parent and with this URL
abbrev pub seen_row : PageRow → Option ℕ → List ℕ → Row Body
seen_row row parent url =
    record {
      id = row.id;
      parent = parent;
      path = steps_of row.path;
      url = url;
      slug = row.slug;
      numchild = row.numchild;
      body = row.body;
    }

-- a path without its last step
abbrev pub above : List ℕ → List ℕ
above path = take (length path - 1) path

-- the page whose path is this one without its last step
abbrev pub parent_id : List ℕ → List (Row Body) → Option ℕ
parent_id path pages = option_map (λ row. row.id) (find (λ row. bytes_eq row.path (above path)) pages)

-- the rows of a tree that is its root alone
abbrev pub root_rows : List (Row Body)
root_rows =
    record {
      id = 1;
      parent = None;
      path = 1 ∷ [];
      url = SLASH ∷ [];
      slug = [];
      numchild = 0;
      body =
          root_body;
    } ∷ []

-- A page and its place in path order, with the n rows of its subtree: they are the rows that begin
-- with its path.
pub record IsRange (pages : List (Row Body)) (row : Row Body) (place n : ℕ) : Type 0 where
  pub page : slice_get pages place ≡ Some row
  pub within : place + n ≤ length pages
  pub inside : AllByRecursion (λ other. BeginsWith row.path other.path) (take n (drop place pages))
  pub before : AllByRecursion (λ other. BeginsWith row.path other.path → ⊥) (take place pages)
  pub after : AllByRecursion (λ other. BeginsWith row.path other.path → ⊥) (drop (place + n) pages)

-- A row that may be put in: its id and its path are new, its path is a path's text with its depth
-- beside it, it has no children, its parent is there, and no child of its parent has its slug.
pub record IsNewRow (pages : List (Row Body)) (row : PageRow) : Type 0 where
  pub path_is : IsPathText row.path
  pub depth_is : row.depth ≡ length (steps_of row.path)
  pub childless : row.numchild ≡ 0
  pub new_id : row_with row.id pages ≡ None
  pub new_path : AllByRecursion (λ other. other.path ≡ steps_of row.path → ⊥) pages
  pub has_parent : IsSome (parent_id (steps_of row.path) pages)
  pub free_slug : IfSome (parent_id (steps_of row.path) pages) (λ parent. kid_named parent row.slug
      pages ≡ None)

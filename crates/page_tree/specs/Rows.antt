-- The flat rows of a tree, depth first: what django-treebeard keeps of it, a row for each page with
-- its materialized
-- path. Looking rows up, and putting a new one in its place.
use Rattle.std.specs.Prelude.{ℕ, Bool, true, false, Option, Some, None, ◌==◌, nat_lt, ◌&&◌, List, [], ◌∷◌, ◌++◌, ◌+◌}
use Rattle.std.specs.Prelude.{map, filter, find, if◌then◌else◌}
use Rattle.std.specs.Option.{option_map}
use Rattle.std.specs.Str.{bytes_eq}
use Rattle.page_tree.specs.Tree.{Forest, bare, grown}
use Rattle.page_tree.specs.Walk.{kid_count, SLASH}

-- A page as one row: where it stands, by its parent's id, the steps of its path and its URL, and
-- what is kept of it.
pub record Row (Body : Type 0) : Type 0 where
  pub id : ℕ
  pub parent : Option ℕ
  pub path : List ℕ
  pub url : List ℕ
  pub slug : List ℕ
  pub numchild : ℕ
  pub body : Body

-- the URL of a page below the page with this URL
abbrev pub child_url : List ℕ → List ℕ → List ℕ
child_url url slug = (url ++ slug) ++ SLASH ∷ []

-- whether the parent is this page
abbrev pub is_parent : ℕ → Option ℕ → Bool
is_parent id None = false
is_parent id (Some p) = p == id

-- Depth-first order: the first step that differs decides, and a path comes before those that it
-- begins.
abbrev pub comes_before : List ℕ → List ℕ → Bool
comes_before [] [] = false
comes_before [] (y ∷ ys) = true
comes_before (x ∷ xs) [] = false
comes_before (x ∷ xs) (y ∷ ys) = if x == y then comes_before xs ys else nat_lt x y

module _ {Body : Type 0} where
  -- The rows of pages side by side and of all below them, depth first. Their parent, where they
  -- have one, has this
  -- path and this URL.
  abbrev pub rows_below : Option ℕ → List ℕ → List ℕ → Forest Body → List (Row Body)
  rows_below parent path url bare = []
  rows_below parent path url (grown i step slug body kids rest) =
      record {
        id = i;
        parent = parent;
        path = path ++ step ∷ [];
        url = child_url url slug;
        slug = slug;
        numchild = kid_count kids;
        body = body;
      }
      ∷ (rows_below (Some i) (path ++ step ∷ []) (child_url url slug) kids
      ++ rows_below parent path url rest)

  -- The rows of a whole tree. The root's slug is empty, so that its URL is `/`.
  abbrev pub rows_of : Forest Body → List (Row Body)
  rows_of tree = rows_below None [] [] tree

  -- the row of the page with the id
  abbrev pub row_with : ℕ → List (Row Body) → Option (Row Body)
  row_with id rows = find (λ row. row.id == id) rows

  -- the page below this parent with this slug
  abbrev pub kid_named : ℕ → List ℕ → List (Row Body) → Option ℕ
  kid_named parent slug rows =
      option_map (λ row. row.id)
      (find (λ row. is_parent parent row.parent && bytes_eq row.slug slug) rows)

  -- the ids of a page's children, in order
  abbrev pub kids_in : ℕ → List (Row Body) → List ℕ
  kids_in parent rows = map (λ row. row.id) (filter (λ row. is_parent parent row.parent) rows)

  -- the row with one child more
  abbrev pub with_kid : Row Body → Row Body
  with_kid row = record row { numchild = row.numchild + 1 }

  -- the rows with one child more for the parent, where there is one
  abbrev pub raise_count : Option ℕ → List (Row Body) → List (Row Body)
  raise_count parent rows = map (λ row. if is_parent row.id parent then with_kid row else row) rows

  -- a row before the first that comes after it
  abbrev pub insert_in_order : Row Body → List (Row Body) → List (Row Body)
  insert_in_order new [] = new ∷ []
  insert_in_order new (row ∷ rows) =
      if comes_before new.path row.path then new ∷ row ∷ rows else row ∷ insert_in_order new rows

  -- the rows with a new one in its place, and its parent's child count one up
  abbrev pub with_row : Row Body → List (Row Body) → List (Row Body)
  with_row new rows = insert_in_order new (raise_count new.parent rows)

-- Rows that are cut out of the rows of a tree, and rows that change their beginning.
use Rattle.std.specs.Prelude.{ℕ, suc, ◌==◌, ◌+◌, ◌-◌, Bool, true, false, not, List, [], ◌∷◌, ◌++◌, Option, Some, map, filter, take, drop, length, if◌then◌else◌}
use Prim.Native.Nat.{zero}
use Rattle.page_tree.specs.Tree.{Forest, bare, grown}
use Rattle.page_tree.specs.Rows.{Row, is_parent}
use Rattle.page_store.specs.Search.{begins, leading}
use Rattle.step_path.specs.Path.{relabelled}
use Rattle.tree_rows.specs.Subtree.{subtree_rows}

module _ {Body : Type 0} where
  -- the row with this number of children
  abbrev pub with_count : ℕ → Row Body → Row Body
  with_count n row = record row { numchild = n }

  -- the row with one child less where it is the parent's
  abbrev pub lower_row : Option ℕ → Row Body → Row Body
  lower_row parent row =
      if is_parent row.id parent then record row { numchild = row.numchild - 1 } else row

  -- the rows with one child less for the parent, where there is one
  abbrev pub lower_count : Option ℕ → List (Row Body) → List (Row Body)
  lower_count parent rows = map (lower_row parent) rows

  -- the rows whose path does not begin with this one
  abbrev pub other_rows : List ℕ → List (Row Body) → List (Row Body)
  other_rows path rows = filter (λ row. not (begins path row.path)) rows

  -- the rows without those of a page and of all below it, and one child less for the page's parent
  abbrev pub cut_rows : Row Body → List (Row Body) → List (Row Body)
  cut_rows top rows = lower_count top.parent (other_rows top.path rows)

  -- the row with the beginnings of its path and of its URL replaced
  abbrev pub relabel_row : List ℕ → List ℕ → List ℕ → List ℕ → Row Body → Row Body
  relabel_row old_path path old_url url row =
      record row { path = relabelled old_path path row.path; url = relabelled old_url url row.url }

  -- The rows of a page and of all below it, where the page goes below this parent and has this path
  -- and this URL: its own row has the new parent, and each has its beginning replaced.
  abbrev pub moved_rows : ℕ → List ℕ → List ℕ → List (Row Body) → List (Row Body)
  moved_rows parent path url [] = []
  moved_rows parent path url (top ∷ rows) =
      record top { parent = Some parent; path = path; url = url }
      ∷ map (relabel_row top.path path top.url url) rows

  -- the place behind the rows whose path begins with this one, where those stand together
  abbrev pub end_of : List ℕ → List (Row Body) → ℕ
  end_of path rows =
      leading (λ row. not (begins path row.path)) rows + length (subtree_rows path rows)

  -- the rows with others put in behind those of a page and of all below it
  abbrev pub put_behind : List ℕ → List (Row Body) → List (Row Body) → List (Row Body)
  put_behind path new rows = take (end_of path rows) rows ++ (new ++ drop (end_of path rows) rows)

-- the path with the step at this depth one higher
abbrev pub raised_path : ℕ → List ℕ → List ℕ
raised_path depth [] = []
raised_path zero (step ∷ path) = (step + 1) ∷ path
raised_path (suc depth) (step ∷ path) = step ∷ raised_path depth path

-- the row with the step of its path at this depth one higher
abbrev pub raise_row : {Body : Type 0} → ℕ → Row Body → Row Body
raise_row depth row = record row { path = raised_path depth row.path }

-- The rows with others put in at a place among those that begin with this path: each row of that
-- page's subtree from the place on has the step below the path one higher.
abbrev pub put_from : {Body : Type 0} → List ℕ → ℕ → List (Row Body) → List (Row Body) →
    List (Row Body)
put_from path place new rows =
    take place rows ++ (new
    ++ (map (raise_row (length path)) (drop place (take (end_of path rows) rows))
    ++ drop (end_of path rows) rows))

-- the place of the first row of the page with the id
abbrev pub place_of : {Body : Type 0} → ℕ → List (Row Body) → ℕ
place_of id rows = leading (λ row. not (row.id == id)) rows

-- whether a page is one of these side by side
abbrev pub is_sibling : {Body : Type 0} → ℕ → Forest Body → Bool
is_sibling sibling bare = false
is_sibling sibling (grown i s slug body kids rest) =
    if i == sibling then true else is_sibling sibling rest

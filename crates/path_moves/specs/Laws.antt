-- What a cut and a graft are on the rows of a tree, each proved in src/laws.rt: the rows of a page
-- and of all below it are taken out and put in behind those of its new parent, with the beginnings
-- of their paths and URLs replaced.
use Rattle.std.specs.Prelude.{◌≡◌, ℕ, ◌+◌, true, List, [], ◌∷◌, ◌++◌, Some, map, nat_eq}
use Rattle.std.specs.List.{IsDistinct}
use Rattle.page_tree.specs.Tree.{Forest, bare, grown, First, Before, End, AreRising, HasDistinctIds, kids_of, node_of, placed, step_needed, without, graft, moved}
use Rattle.page_tree.specs.Rows.{Row, child_url, row_with, rows_below, rows_of, raise_count}
use Rattle.site_types.specs.declared.body.Body.{Body}
use Rattle.tree_model.specs.Changes.{changed_urls, with_urls}
use Rattle.tree_rows.specs.Subtree.{subtree_rows}
use Rattle.tree_rows.specs.Cuts.{cut_rows, moved_rows, put_behind, put_from, place_of, is_sibling}

-- a page of a store
abbrev pub Page : Type 0
Page = Row Body

-- A tree of pages: steps rise among siblings, and no two pages have one id.
pub record IsTree (tree : Forest Body) : Type 0 where
  pub rising : AreRising 0 tree
  pub distinct : HasDistinctIds tree

-- what a cut leaves are the rows that do not begin with the page's path, one child less at its
-- parent
abbrev pub CutTakesRowsOut : Type 0
CutTakesRowsOut =
    (id : ℕ) (tree : Forest Body) (top : Page) → IsTree tree →
    row_with id (rows_of tree) ≡ Some top →
    rows_of (without id tree) ≡ cut_rows top (rows_of tree)

-- a page with all below it, grafted in behind the kids of any page, has its rows behind those that
-- begin with its parent's path, and its parent has one child more
abbrev pub GraftPutsRowsIn : Type 0
GraftPutsRowsIn =
    (parent id step : ℕ) (slug : List ℕ) (body : Body) (kids tree : Forest Body) (top : Page) →
    IsTree tree → row_with parent (rows_of tree) ≡ Some top →
    rows_of (graft parent End (grown id step slug body kids bare) tree)
    ≡ put_behind top.path
    (rows_below (Some parent) top.path top.url
    (placed (grown id step slug body kids bare) (step_needed End (kids_of parent tree)) bare))
    (raise_count (Some parent) (rows_of tree))

-- the rows of a page with all below it, at another place, are its rows with their beginnings
-- replaced
abbrev pub RowsAreRelabelled : Type 0
RowsAreRelabelled =
    (id parent at : ℕ) (path url : List ℕ) (tree : Forest Body) (top : Page) → IsTree tree →
    row_with id (rows_of tree) ≡ Some top →
    rows_below (Some parent) path url (placed (node_of id tree) at bare)
    ≡ moved_rows parent (path ++ at ∷ []) (child_url url top.slug)
    (subtree_rows top.path (rows_of tree))

-- A move behind the last kid of a page that is left after the cut: the page's rows are taken out
-- and
-- put in behind those of the new parent, with the beginnings of their paths and URLs replaced.
abbrev pub MoveRelabelsRows : Type 0
MoveRelabelsRows =
    (id parent : ℕ) (tree : Forest Body) (top above : Page) → IsTree tree →
    row_with id (rows_of tree) ≡ Some top →
    row_with parent (cut_rows top (rows_of tree)) ≡ Some above →
    rows_of (moved id parent End tree)
    ≡ put_behind above.path
    (moved_rows parent (above.path ++ step_needed End (kids_of parent (without id tree)) ∷ [])
    (child_url above.url top.slug) (subtree_rows top.path (rows_of tree)))
    (raise_count (Some parent) (cut_rows top (rows_of tree)))

-- A graft at the first place: the rows go right behind the parent's own, and each kid's step, in
-- its
-- row and in those of all below it, is one higher.
abbrev pub GraftAtFirstRaises : Type 0
GraftAtFirstRaises =
    (parent id step : ℕ) (slug : List ℕ) (body : Body) (kids tree : Forest Body) (top : Page) →
    IsTree tree → row_with parent (rows_of tree) ≡ Some top →
    rows_of (graft parent First (grown id step slug body kids bare) tree)
    ≡ put_from top.path (place_of parent (rows_of tree) + 1)
    (rows_below (Some parent) top.path top.url (placed (grown id step slug body kids bare) 1 bare))
    (raise_count (Some parent) (rows_of tree))

-- A graft before a kid: the rows go before that kid's, with its step, and the step of that kid
-- and of
-- each later one, in their rows and in those of all below them, is one higher.
abbrev pub GraftBeforeRaises : Type 0
GraftBeforeRaises =
    (parent sibling id step : ℕ) (slug : List ℕ) (body : Body) (kids tree : Forest Body)
    (top kid : Page) →
    IsTree tree → row_with parent (rows_of tree) ≡ Some top → row_with sibling (rows_of tree)
    ≡ Some kid →
    is_sibling sibling (kids_of parent tree) ≡ true → (at : ℕ) → kid.path ≡ top.path ++ at ∷ [] →
    rows_of (graft parent (Before sibling) (grown id step slug body kids bare) tree)
    ≡ put_from top.path (place_of sibling (rows_of tree))
    (rows_below (Some parent) top.path top.url (placed (grown id step slug body kids bare) at bare))
    (raise_count (Some parent) (rows_of tree))

-- With the URLs that change listed, the later rows are as they are, where no two of them have one
-- id: what is not listed has the URL that it had before.
abbrev pub ChangedUrlsAreComplete : Type 0
ChangedUrlsAreComplete =
    (before after : List Page) → IsDistinct nat_eq (map (λ row. row.id) after) →
    with_urls (changed_urls before after) before after ≡ after

-- A walk along the kids of a page, from each kid over its subtree to the next.
use Rattle.std.specs.Prelude.{◌≡◌, ℕ, ◌+◌, ◌-◌, ◌<◌, ◌≤◌, Some, List, length, take, drop, slice_get}
use Rattle.page_tree.specs.Rows.{kids_in}
use Rattle.page_store.specs.PageRows.{IsRange}
use Rattle.page_store.specs.Pages.{Page, ArePages}

-- the ids of the kids of a page among the rows from a place to an end
abbrev pub kids_between : ℕ → ℕ → ℕ → List Page → List ℕ
kids_between parent place end pages = kids_in parent (take (end - place) (drop place pages))

-- The place is that of a kid of the page, and the end that of the page's subtree.
pub record IsKidPlace (pages : List Page) (parent place end : ℕ) : Type 0 where
  pub top : Page
  pub top_place : ℕ
  pub size : ℕ
  pub top_is : top.id ≡ parent
  pub range : IsRange pages top top_place size
  pub behind : top_place < place
  pub end_is : end ≡ top_place + size
  pub kid_is : (row : Page) → slice_get pages place ≡ Some row → row.parent ≡ Some parent

-- A walk is over, or it stands at a kid.
pub record IsKidWalk (pages : List Page) (parent place end : ℕ) : Type 0 where
  pub are_pages : ArePages pages
  pub within : end ≤ length pages
  pub at_kid : place < end → IsKidPlace pages parent place end

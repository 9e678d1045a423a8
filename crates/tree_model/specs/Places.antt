-- Where a position leads in a tree of pages, and the tree with a page moved there (django-treebeard,
-- MP_Node.move; what becomes of the steps of siblings is this project's own).
use Rattle.std.specs.Prelude.{ℕ, Bool, true, false, not, ◌==◌, ◌&&◌, ◌||◌, List, [], unwrap_or, if◌then◌else◌}
use Rattle.std.specs.Option.{option_map, option_and_then}
use Rattle.page_tree.specs.Tree.{Forest, bare, grown, Place, First, Before, End, has_page, kids_of, without, moved}
use Rattle.page_tree.specs.Rows.{rows_of, row_with}
use Rattle.site_types.specs.declared.position.Position.{Position}
use Rattle.site_types.specs.declared.position.Position.TheVariants.{FirstChild, LastChild, FirstSibling, Left, Right, LastSibling}

-- whether the position is among the target's siblings, and not below the target
abbrev pub is_beside : Position → Bool
is_beside FirstChild = false
is_beside LastChild = false
is_beside FirstSibling = true
is_beside Left = true
is_beside Right = true
is_beside LastSibling = true

-- whether the target is the page itself, at a position among its own siblings
abbrev pub stays_put : ℕ → ℕ → Position → Bool
stays_put page target position = (page == target) && is_beside position

module _ {Body : Type 0} where
  -- the parent of a page, or 0 where it has none
  abbrev pub parent_in : Forest Body → ℕ → ℕ
  parent_in tree id =
      unwrap_or (option_and_then (λ row. row.parent) (row_with id (rows_of tree))) 0

  -- the slug of a page, or no byte where there is no such page
  abbrev pub slug_in : Forest Body → ℕ → List ℕ
  slug_in tree id = unwrap_or (option_map (λ row. row.slug) (row_with id (rows_of tree))) []

  -- the first of these pages, or the end where there is none
  abbrev pub before_first : Forest Body → Place
  before_first bare = End
  before_first (grown i step slug body kids rest) = Before i

  -- the place behind a page among its siblings: before the next of them, or the end
  abbrev pub place_behind : ℕ → Forest Body → Place
  place_behind id bare = End
  place_behind id (grown i step slug body kids rest) =
      if i == id then before_first rest else place_behind id rest

  -- the new parent that a position leads to
  abbrev pub parent_at : Forest Body → ℕ → Position → ℕ
  parent_at tree target position = if is_beside position then parent_in tree target else target

  -- The place that a position leads to, in the tree without the page that is moved.
  abbrev pub place_at : Forest Body → ℕ → Position → Place
  place_at tree target FirstChild = First
  place_at tree target LastChild = End
  place_at tree target FirstSibling = First
  place_at tree target Left = Before target
  place_at tree target Right = place_behind target (kids_of (parent_in tree target) tree)
  place_at tree target LastSibling = End

  -- the tree with the page moved: it is cut out with all below it, and then takes its place
  abbrev pub moved_to : Forest Body → ℕ → ℕ → Position → Forest Body
  moved_to tree page target position =
      moved page (parent_at tree target position) (place_at (without page tree) target position)
      tree

  -- whether a move would lead into the page itself: the target lies below the page, or is the page
  -- at a position below it
  abbrev pub leads_into_itself : Forest Body → ℕ → ℕ → Position → Bool
  leads_into_itself tree page target position =
      has_page target (kids_of page tree) || ((page == target) && not (is_beside position))

-- Which open desks end by what is taken away.
use Rattle.std.specs.Prelude.{ℕ, Bool, not, ◌==◌, ◌&&◌, List, [], ◌∷◌, Option, Some, None, IsSome, if◌then◌else◌}
use Rattle.std.specs.List.{list_any}
use Rattle.page_tree.specs.Rows.{row_with}
use Rattle.page_store.specs.Pages.{Page}
use Rattle.site_model.specs.World.{DeskPair, TreePart}
use Rattle.site_model.specs.Users.{is_membership}
use Rattle.site_model.specs.Desks.{stays}
use Rattle.site_model.specs.Losing.{is_within}
use Rattle.site_model.specs.LosingLaws.{is_lost_below}
use Rattle.lost_desks.specs.declared.loss.Loss.{Loss}
use Rattle.lost_desks.specs.declared.loss.Loss.TheVariants.{RightsOf, RightsBelow, Pages, Place}

-- Whether an open desk ends: in the world after rights are taken away, or in the world before pages go
-- or change their place.
abbrev pub is_lost_by : TreePart → Loss → DeskPair → Bool
is_lost_by after (RightsOf user) pair = (pair.user == user) && not (stays after pair)
is_lost_by after (RightsBelow page group) pair =
    (is_within after.tree page pair.page
    && list_any (is_membership pair.user group) after.members)
    && not (stays after pair)
is_lost_by after (Pages page) pair = is_within after.tree page pair.page
is_lost_by after (Place page parent) pair = is_lost_below after page parent pair

-- the parent that pages go to is there
abbrev pub HasParent : List Page → Loss → Type 0
HasParent pages (RightsOf user) = Unit {0}
HasParent pages (RightsBelow page group) = Unit {0}
HasParent pages (Pages page) = Unit {0}
HasParent pages (Place page parent) = IsSome (row_with parent pages)

-- the page of a desk that ends
abbrev pub page_lost : (DeskPair → Bool) → Option DeskPair → Option ℕ
page_lost ends None = None
page_lost ends (Some pair) = if ends pair then Some pair.page else None

-- the page, if a desk on it is of a user for whom the test holds
abbrev pub page_if : (ℕ → Bool) → ℕ → Option ℕ → List ℕ
page_if test page None = []
page_if test page (Some user) = if test user then page ∷ [] else []

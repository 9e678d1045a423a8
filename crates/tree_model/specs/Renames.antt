-- The tree with another slug for a page.
use Rattle.std.specs.Prelude.{ℕ, ◌==◌, List, if◌then◌else◌}
use Rattle.page_tree.specs.Tree.{Forest, bare, grown}

-- the pages with another slug for the page with the id
abbrev pub renamed : {Body : Type 0} → ℕ → List ℕ → Forest Body → Forest Body
renamed id new bare = bare
renamed id new (grown i step slug body kids rest) =
    if i == id
    then grown i step new body kids rest
    else grown i step slug body (renamed id new kids) (renamed id new rest)

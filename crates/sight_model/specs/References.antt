-- Which pages are told to link to a page.
use Rattle.std.specs.Prelude.{ℕ, List, take, Option}
use Rattle.std.specs.Bool.{then_some}
use Rattle.page_tree.specs.Tree.{has_page}
use Rattle.public_view.specs.declared.refs.TheConstants.{MAX_REFS}
use Rattle.site_model.specs.World.{World}
use Rattle.site_model.specs.Links.{refs_of}

-- the ids of the first `MAX_REFS` pages that link to this one, rising, if this one is there
abbrev pub refs_shown : World → ℕ → Option (List ℕ)
refs_shown world id =
    then_some (has_page id world.part.tree) (take MAX_REFS (refs_of world.part id))

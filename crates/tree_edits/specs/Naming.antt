-- What is planned of another slug for a page.
use Rattle.std.specs.Prelude.{◌≡◌, ℕ, List}
use Rattle.page_tree.specs.Tree.{Forest}
use Rattle.page_tree.specs.Rows.{Row, rows_of}
use Rattle.site_types.specs.declared.body.Body.{Body}
use Rattle.tree_model.specs.Changes.{changed_urls}
use Rattle.tree_model.specs.Renames.{renamed}
use Rattle.new_pages.specs.Plans.{IsSoundTree, IsBelowRoot}
use Rattle.site_model.specs.World as worlds

-- Another slug is to be planned in the rows of a sound world, for a page that is there and below
-- the root.
pub record IsBelow (pages : List (Row Body)) (part : worlds.TreePart) (page : ℕ) (slug : List ℕ) :
    Type 0 where
  pub stands : pages ≡ rows_of part.tree
  pub sound : IsSoundTree part
  pub named : IsBelowRoot part.tree page

-- The URLs are those that change with the slug.
abbrev pub AreNewUrls : Forest Body → ℕ → List ℕ → List (ℕ × List ℕ) → Type 0
AreNewUrls tree page slug urls =
    urls ≡ changed_urls (rows_of tree) (rows_of (renamed page slug tree))

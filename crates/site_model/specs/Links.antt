-- Which pages link to a page: a regular page by its latest content and, if it is live, by the one
-- that it shows; an alias by what it shows, if it is live. The root has no content, and links to
-- none.
use Rattle.std.specs.Prelude.{ℕ, Bool, false, nat_eq, ◌&&◌, ◌||◌, List, [], ◌∷◌, Option, Some, None, if◌then◌else◌}
use Rattle.std.specs.List.{list_any}
use Rattle.page_tree.specs.Rows.{Row, rows_of}
use Rattle.site_types.specs.Content.{ContentValue}
use Rattle.site_types.specs.Links.{pages_in}
use Rattle.site_types.specs.declared.body.Body.{Body}
use Rattle.site_model.specs.World.{TreePart}
use Rattle.site_model.specs.Users.{put_in}
use Rattle.site_model.specs.Views.{body_of, is_live}
use Rattle.site_model.specs.Aliases.{content_with, shown_by}

-- whether a content, if there is one, links to the page with this id, which need not be there
abbrev pub links_in : Option ContentValue → ℕ → Bool
links_in None id = false
links_in (Some content) id = list_any (nat_eq id) (pages_in content.blocks)

-- whether what a live page shows links to the page with this id
abbrev pub shown_links : TreePart → Body → ℕ → Bool
shown_links part body id = is_live part.tree body && links_in (shown_by part body) id

-- whether a page of which this is kept links to the page with this id
abbrev pub links_to : TreePart → Body → ℕ → Bool
links_to part body id = links_in (latest body.source) id || shown_links part body id
  where
    latest : Option ℕ → Option ContentValue
    latest None = content_with part body.latest
    latest (Some source) = None

-- whether a page of which this is kept, if it is there, links to the page with this id
abbrev pub kept_links_to : TreePart → Option Body → ℕ → Bool
kept_links_to part None id = false
kept_links_to part (Some body) id = links_to part body id

-- whether a page links to the page with this id
abbrev pub page_links_to : TreePart → ℕ → ℕ → Bool
page_links_to part page id = kept_links_to part (body_of part.tree page) id

-- the ids of these pages that pass a test, rising
abbrev pub rising_ids : (Row Body → Bool) → List (Row Body) → List ℕ
rising_ids test [] = []
rising_ids test (row ∷ rows) =
    if test row
    then put_in (λ (id : ℕ). id ∷ []) row.id (rising_ids test rows)
    else rising_ids test rows

-- the ids of the pages that link to the page with this id, rising
abbrev pub refs_of : TreePart → ℕ → List ℕ
refs_of part id = rising_ids (λ row. links_to part row.body id) (rows_of part.tree)

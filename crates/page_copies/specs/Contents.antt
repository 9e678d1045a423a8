-- The contents that copies of pages get.
use Rattle.std.specs.Prelude.{◌≡◌, ℕ, List, Option, Some, None}
use Rattle.page_tree.specs.Rows.{Row, rows_of}
use Rattle.site_types.specs.Content.{ContentValue}
use Rattle.site_types.specs.declared.body.Body.{Body}
use Rattle.site_types.specs.declared.revision.Revision.{Revision}
use Rattle.site_model.specs.World.{TreePart}
use Rattle.site_model.specs.Aliases.{content_with, shown_by}

-- These rows and revisions are those of a world.
pub record StandFor (pages : List (Row Body)) (revisions : List Revision) (part : TreePart) :
    Type 0 where
  pub rows_are : pages ≡ rows_of part.tree
  pub shelf_is : revisions ≡ part.revisions

-- the content that a copy of a page gets of which this is kept, where there is one
abbrev pub copied_by : TreePart → Body → Option ContentValue
copied_by part body = kept body.source
  where
    kept : Option ℕ → Option ContentValue
    kept None = content_with part body.latest
    kept (Some source) = shown_by part body

-- What cards say of the kids of pages, kid by kid.
use Rattle.std.specs.Prelude.{ℕ, if◌then◌else◌, List, [], ◌∷◌, Option, Some, None, option_map, option_and_then}
use Rattle.page_tree.specs.Tree.{Forest}
use Rattle.page_tree.specs.Rows.{Row, rows_of, row_with}
use Rattle.site_types.specs.Content.{ContentValue}
use Rattle.site_types.specs.declared.body.Body.{Body}
use Rattle.site_types.specs.declared.revision.Revision.{Revision}
use Rattle.public_view.specs.declared.kid.LiveKid.{LiveKid}
use Rattle.site_model.specs.World.{World}
use Rattle.site_model.specs.Views.{is_live}
use Rattle.sight_model.specs.Cards.{kid_from, shown_revision}

-- what a card says of a kid with this row, if it is live
abbrev pub told_of : Forest Body → List Revision → Option (Row Body) → Option LiveKid
told_of tree revisions None = None
told_of tree revisions (Some row) =
    if is_live tree row.body then Some (kid_from tree revisions row) else None

-- with what is said of one kid more, if it is live
abbrev pub with_told : Option LiveKid → List LiveKid → List LiveKid
with_told None more = more
with_told (Some kid) more = kid ∷ more

-- what a card says of these kids: of those that are live
abbrev pub kids_told : Forest Body → List Revision → List (Row Body) → List ℕ → List LiveKid
kids_told tree revisions pages [] = []
kids_told tree revisions pages (id ∷ ids) =
    with_told (told_of tree revisions (row_with id pages)) (kids_told tree revisions pages ids)

-- the content that a page shows, if it is there and shows one
abbrev pub shown_of : World → ℕ → Option ContentValue
shown_of world id =
    option_map (λ revision. revision.content)
    (option_and_then (λ row. shown_revision world.part.tree world.part.revisions row.body)
    (row_with id (rows_of world.part.tree)))

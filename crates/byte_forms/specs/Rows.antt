-- The forms of rows of pages, of revisions and of desks.
use Rattle.std.specs.Prelude.{ℕ, List, [], ◌∷◌, ◌++◌, Option, Some, None}
use Rattle.site_types.specs.Content.{content_form}
use Rattle.site_types.specs.declared.moderation.Moderation.{Moderation}
use Rattle.site_types.specs.declared.moderation.ModerationStatus.{ModerationStatus}
use Rattle.site_types.specs.declared.moderation.ModerationStatus.TheVariants.{InProgress, Approved, NeedsChanges, Cancelled}
use Rattle.site_types.specs.declared.body.Body.{Body}
use Rattle.site_types.specs.declared.page_row.PageRow.{PageRow}
use Rattle.site_types.specs.declared.revision.Revision.{Revision}
use Rattle.site_types.specs.declared.world_rows.DeskRow.{DeskRow}
use Rattle.byte_forms.specs.Fields.{truth_form, id_form, u32_form, optional_id_form, moment_form, optional_moment_form, slug_form, path_form}

-- the status of a moderation: from 1 to 4
abbrev pub status_number : ModerationStatus → ℕ
status_number InProgress = 1
status_number Approved = 2
status_number NeedsChanges = 3
status_number Cancelled = 4

-- a moderation that may be absent: a status of one byte, where 0 is none; where it is there, its
-- workflow, its task in one byte, its revision and who submitted it
abbrev pub moderation_form : Option Moderation → List ℕ
moderation_form None = 0 ∷ []
moderation_form (Some moderation) =
    status_number moderation.status ∷ id_form moderation.workflow
    ++ (moderation.task ∷ id_form moderation.revision) ++ id_form moderation.by

-- what a row says beside the page's place in the tree
abbrev pub body_form : Body → List ℕ
body_form body =
    id_form body.owner ++ optional_id_form body.source
    ++ truth_form body.live ++ truth_form body.expired
    ++ optional_id_form body.shown ++ optional_id_form body.latest
    ++ optional_id_form body.scheduled
    ++ optional_moment_form body.first_published ++ optional_moment_form body.last_published
    ++ optional_id_form body.locked_by ++ optional_id_form body.workflow
    ++ moderation_form body.moderation

-- a row: id, path, depth in one byte, number of kids, slug, and its other fields
abbrev pub row_form : PageRow → List ℕ
row_form row =
    id_form row.id ++ path_form row.path ++ (row.depth ∷ u32_form row.numchild)
    ++ slug_form row.slug ++ body_form row.body

-- a revision: id, page, who made it and when, content, go-live and expiry
abbrev pub revision_form : Revision → List ℕ
revision_form revision =
    id_form revision.id ++ id_form revision.page ++ id_form revision.by ++ moment_form revision.made
    ++ content_form revision.content
    ++ optional_moment_form revision.go_live ++ optional_moment_form revision.expire

-- a desk: page, user and content
abbrev pub desk_form : DeskRow → List ℕ
desk_form desk = id_form desk.page ++ id_form desk.user ++ content_form desk.content

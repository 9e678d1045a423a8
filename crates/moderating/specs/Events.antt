-- What becomes of a page that is submitted, and of a revision that comes too late.
use Rattle.std.specs.Prelude.{ℕ, Bool, false, ◌||◌, Option, Some, None, option_and_then}
use Rattle.std.specs.Option.{option_map, option_or}
use Rattle.site_types.specs.declared.moderation.Moderation.{Moderation}
use Rattle.site_types.specs.declared.revision.Revision.{Revision}
use Rattle.site_model.specs.World.{TreePart}
use Rattle.site_model.specs.Moderating.{nearest_workflow}
use Rattle.site_model.specs.Moderations.{begun}
use Rattle.site_model.specs.Publishing.{has_expired, expires_first}
use Rattle.workflow.specs.Flows.{gone_on}

-- The moderation of a page that is submitted with this revision by this user, where the page had
-- this one: one that needs changes goes on, and else one begins at the nearest workflow, where there
-- is one.
abbrev pub submitted : TreePart → ℕ → ℕ → ℕ → Option Moderation → Option Moderation
submitted part page revision by moderation =
    option_or (option_and_then (gone_on part.workflows revision by) moderation)
    (option_map (λ workflow. begun workflow revision by) (nearest_workflow part page))

-- whether there is a revision that has expired, or would expire before it goes live
abbrev pub is_any_late : ℕ → Option Revision → Bool
is_any_late moment None = false
is_any_late moment (Some revision) = has_expired moment revision || expires_first revision

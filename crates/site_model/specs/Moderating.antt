-- The commands on moderations: a page is submitted, its current task approved or rejected, its
-- moderation given up (Wagtail, workflows).
use Rattle.std.specs.Prelude.{ℕ, Bool, true, false, ◌&&◌, ◌||◌, List, [], ◌∷◌, Option, Some, None, if◌then◌else◌}
use Rattle.std.specs.Option.{option_or, option_and_then, is_none, unwrap_or}
use Rattle.page_tree.specs.Walk.{Visit, walk}
use Rattle.site_types.specs.declared.body.Body.{Body}
use Rattle.site_types.specs.declared.moderation.Moderation.{Moderation}
use Rattle.site_types.specs.declared.moderation.ModerationStatus.{ModerationStatus}
use Rattle.site_types.specs.declared.moderation.ModerationStatus.TheVariants.{InProgress, Approved, NeedsChanges, Cancelled}
use Rattle.site_types.specs.declared.refusal.Refusal.{Refusal}
use Rattle.site_types.specs.declared.refusal.Refusal.TheVariants.{NoWorkflow, NotModerated, AlreadyExpired}
use Rattle.site_types.specs.declared.reply.Reply.TheVariants.{Done, Moderated}
use Rattle.site_types.specs.declared.revision.Revision.{Revision}
use Rattle.site_model.specs.World.{TreePart, Deed, time_at}
use Rattle.site_model.specs.Rules.{refused_if, first_of}
use Rattle.site_model.specs.Views.{body_of}
use Rattle.site_model.specs.Create.{plain_deed}
use Rattle.site_model.specs.Bodies.{revision_with, body_deed}
use Rattle.site_model.specs.Moderations.{Event, WasSubmitted, WasApproved, moderated}
use Rattle.site_model.specs.Publishing.{published_body, has_expired, expires_first}

-- the workflow of the last page on a walk that has one
abbrev pub last_workflow : List (Visit Body) → Option ℕ
last_workflow [] = None
last_workflow (visit ∷ visits) = option_or (last_workflow visits) visit.body.workflow

-- the nearest workflow of a page: its own, or else that of the nearest page above it that has one
abbrev pub nearest_workflow : TreePart → ℕ → Option ℕ
nearest_workflow part page = last_workflow (walk page part.tree)

-- the moderation of a page
abbrev pub moderation_of : TreePart → ℕ → Option Moderation
moderation_of part page = option_and_then (λ body. body.moderation) (body_of part.tree page)

-- whether a moderation with this status would start anew where it is submitted
abbrev pub starts_anew : ModerationStatus → Bool
starts_anew InProgress = false
starts_anew Approved = true
starts_anew NeedsChanges = false
starts_anew Cancelled = true

-- whether a page with this moderation would start one
abbrev pub would_start : Option Moderation → Bool
would_start None = true
would_start (Some moderation) = starts_anew moderation.status

-- the rule of submitting a page
abbrev pub submit_rules : TreePart → ℕ → Option Refusal
submit_rules part page =
    refused_if
    (would_start (moderation_of part page) && is_none (nearest_workflow part page)) NoWorkflow

-- the latest revision of a page, by its id, or 0
abbrev pub latest_id : TreePart → ℕ → ℕ
latest_id part page =
    unwrap_or (option_and_then (λ body. body.latest) (body_of part.tree page)) 0

-- a page is submitted by its caller, with its latest revision
abbrev pub submission : TreePart → ℕ → ℕ → Event
submission part caller page =
    WasSubmitted (unwrap_or (nearest_workflow part page) 0) (latest_id part page) caller

-- what an event makes of the moderation of a page
abbrev pub after_event : TreePart → Event → ℕ → Option Moderation
after_event part event page = moderated part.workflows event (moderation_of part page)

-- the event has no place in the page's moderation
abbrev pub not_moderated : TreePart → Event → ℕ → Option Refusal
not_moderated part event page = refused_if (is_none (after_event part event page)) NotModerated

-- whether a moderation is approved
abbrev pub is_approved : ModerationStatus → Bool
is_approved InProgress = false
is_approved Approved = true
is_approved NeedsChanges = false
is_approved Cancelled = false

-- the revision that an approval at the last task publishes
abbrev pub approved_revision : TreePart → Option Moderation → Option Revision
approved_revision part None = None
approved_revision part (Some moderation) =
    if is_approved moderation.status
    then revision_with moderation.revision part.revisions
    else None

-- a revision that is to be published has expired
abbrev pub already_expired : ℕ → Option Revision → Option Refusal
already_expired moment None = None
already_expired moment (Some revision) =
    refused_if (has_expired moment revision || expires_first revision) AlreadyExpired

-- the rules of an approval: the revision is looked at where the last task is approved
abbrev pub approve_rules : TreePart → ℕ → ℕ → Option Refusal
approve_rules part now page =
    first_of
    (not_moderated part WasApproved page
    ∷ already_expired (time_at part now)
    (approved_revision part (after_event part WasApproved page))
    ∷ [])

-- the body with this revision published, where there is one
abbrev pub body_published : ℕ → Option Revision → Body → Body
body_published moment None body = body
body_published moment (Some revision) body = published_body moment revision body

-- what becomes of a page whose moderation is now this one: where it was just approved, the
-- moderated revision is published
abbrev pub answered : TreePart → ℕ → ℕ → Option Moderation → Deed
answered part now page None = plain_deed part Done
answered part now page (Some moderation) =
    let published = approved_revision part (Some moderation) in
    body_deed part now page
    (λ body. record (body_published (time_at part now) published body) {
      moderation = Some moderation;
    })
    (Moderated moderation.status moderation.task)

-- what submitting a page does
abbrev pub submit : TreePart → ℕ → ℕ → ℕ → Deed
submit part now caller page =
    answered part now page (after_event part (submission part caller page) page)

-- what an answer to a moderation does
abbrev pub answer : TreePart → ℕ → Event → ℕ → Deed
answer part now event page = answered part now page (after_event part event page)

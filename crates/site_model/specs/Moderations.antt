-- Moderations: what an event makes of a page's moderation (Wagtail, workflows).
use Rattle.std.specs.Prelude.{ℕ, ◌+◌, nat_lt, List, length, Option, Some, None, if◌then◌else◌}
use Rattle.std.specs.Option.{option_or}
use Rattle.site_types.specs.declared.moderation.Moderation.{Moderation}
use Rattle.site_types.specs.declared.moderation.ModerationStatus.{ModerationStatus}
use Rattle.site_types.specs.declared.moderation.ModerationStatus.TheVariants.{InProgress, Approved, NeedsChanges, Cancelled}
use Rattle.site_model.specs.Views.{list_at}

-- What may happen to a moderation. It is submitted to a workflow, with a revision and by a user; a
-- revision is filed.
pub data Event : Type 0 where
  WasSubmitted : (workflow revision by : ℕ) → Event
  WasApproved : Event
  WasRejected : Event
  WasCancelled : Event
  WasPublished : Event
  WasFiled : (revision : ℕ) → Event

-- a moderation that begins at the first task of a workflow
abbrev pub begun : ℕ → ℕ → ℕ → Moderation
begun workflow revision by =
    record {
      workflow = workflow;
      task = 1;
      status = InProgress;
      revision = revision;
      by = by;
    }

-- a moderation that goes on where it needed changes
abbrev pub resumed : ℕ → ℕ → Moderation → Moderation
resumed revision by moderation =
    record moderation { status = InProgress; revision = revision; by = by }

-- a moderation whose current task of so many is approved
abbrev pub advanced : ℕ → Moderation → Moderation
advanced count moderation =
    if nat_lt moderation.task count
    then record moderation { task = moderation.task + 1 }
    else record moderation { status = Approved }

-- the moderation with another status
abbrev pub at_status : ModerationStatus → Moderation → Moderation
at_status status moderation = record moderation { status = status }

-- What an event makes of a moderation with so many tasks, by its status; none where the event has
-- no place there.
abbrev pub moved_on : ℕ → Event → ModerationStatus → Moderation → Option Moderation
moved_on count (WasSubmitted workflow revision by) InProgress moderation = None
moved_on count (WasSubmitted workflow revision by) Approved moderation =
    Some (begun workflow revision by)
moved_on count (WasSubmitted workflow revision by) NeedsChanges moderation =
    Some (resumed revision by moderation)
moved_on count (WasSubmitted workflow revision by) Cancelled moderation =
    Some (begun workflow revision by)
moved_on count WasApproved InProgress moderation = Some (advanced count moderation)
moved_on count WasApproved Approved moderation = None
moved_on count WasApproved NeedsChanges moderation = None
moved_on count WasApproved Cancelled moderation = None
moved_on count WasRejected InProgress moderation = Some (at_status NeedsChanges moderation)
moved_on count WasRejected Approved moderation = None
moved_on count WasRejected NeedsChanges moderation = None
moved_on count WasRejected Cancelled moderation = None
moved_on count WasCancelled InProgress moderation = Some (at_status Cancelled moderation)
moved_on count WasCancelled Approved moderation = None
moved_on count WasCancelled NeedsChanges moderation = Some (at_status Cancelled moderation)
moved_on count WasCancelled Cancelled moderation = None
moved_on count WasPublished InProgress moderation = Some (at_status Cancelled moderation)
moved_on count WasPublished Approved moderation = None
moved_on count WasPublished NeedsChanges moderation = Some (at_status Cancelled moderation)
moved_on count WasPublished Cancelled moderation = None
moved_on count (WasFiled revision) InProgress moderation =
    Some (record moderation { revision = revision })
moved_on count (WasFiled revision) Approved moderation = None
moved_on count (WasFiled revision) NeedsChanges moderation = None
moved_on count (WasFiled revision) Cancelled moderation = None

-- what an event makes of a page that has no moderation
abbrev pub started : Event → Option Moderation
started (WasSubmitted workflow revision by) = Some (begun workflow revision by)
started WasApproved = None
started WasRejected = None
started WasCancelled = None
started WasPublished = None
started (WasFiled revision) = None

-- what an event makes of a page's moderation, where these are the workflows; none where the event
-- has no place there
abbrev pub moderated : List (List ℕ) → Event → Option Moderation → Option Moderation
moderated workflows event None = started event
moderated workflows event (Some moderation) =
    moved_on (length (list_at workflows moderation.workflow)) event moderation.status moderation

-- the moderation after a revision was filed: another one where it is in progress, and else the same
abbrev pub after_filing : ℕ → Option Moderation → Option Moderation
after_filing revision None = None
after_filing revision (Some moderation) =
    option_or (moved_on 0 (WasFiled revision) moderation.status moderation) (Some moderation)

-- the moderation after the page was published by a command: given up where it was not over
abbrev pub after_publishing : Option Moderation → Option Moderation
after_publishing None = None
after_publishing (Some moderation) =
    option_or (moved_on 0 WasPublished moderation.status moderation) (Some moderation)

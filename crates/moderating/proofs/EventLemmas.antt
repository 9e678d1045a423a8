-- What a submission comes to, by what is kept of its page; and whether a revision comes too late.
use Rattle.std.proofs.Common.{◌≡◌, ◌&&◌, ℕ, Bool, true, false, cond, length, Option, Some, None, refl, sym, ap, ◌∙◌}
use Rattle.std.specs.Option.{option_map, option_or, is_none, unwrap_or}
use Rattle.site_types.specs.declared.body.Body.{Body}
use Rattle.site_types.specs.declared.moderation.Moderation.{Moderation}
use Rattle.site_types.specs.declared.moderation.ModerationStatus.{ModerationStatus}
use Rattle.site_types.specs.declared.moderation.ModerationStatus.TheVariants.{InProgress, Approved, NeedsChanges, Cancelled}
use Rattle.site_types.specs.declared.refusal.Refusal.TheVariants.{NoWorkflow, NotModerated, AlreadyExpired}
use Rattle.site_types.specs.declared.revision.Revision.{Revision}
use Rattle.site_model.specs.World.{TreePart}
use Rattle.site_model.specs.Views.{body_of, list_at}
use Rattle.site_model.specs.Rules.{refused_if}
use Rattle.site_model.specs.Bodies.{revision_with}
use Rattle.site_model.specs.Moderations.{Event, WasSubmitted, WasRejected, WasCancelled, begun, resumed, at_status, moved_on, moderated}
use Rattle.site_model.specs.Moderating.{nearest_workflow, moderation_of, starts_anew, would_start, submit_rules, submission, after_event, not_moderated, is_approved, approved_revision, already_expired}
use Rattle.moderating.specs.Events.{submitted, is_any_late}

-- the moderation that begins at this workflow, where there is one
abbrev starting : Option ℕ → ℕ → ℕ → Option Moderation
starting nearest revision by = option_map (λ (workflow : ℕ). begun workflow revision by) nearest

-- what a page is left with by the status of the moderation that it had
abbrev left_at : Option ℕ → ℕ → ℕ → ℕ → ℕ → Moderation → ModerationStatus → Option Moderation
left_at nearest count workflow revision by moderation status =
    option_or
    (cond (starts_anew status) None
    (moved_on count (WasSubmitted workflow revision by) status moderation))
    (starting nearest revision by)

-- what the event makes of that moderation
abbrev event_at : Option ℕ → ℕ → ℕ → ℕ → Moderation → ModerationStatus → Option Moderation
event_at nearest count revision by moderation status =
    moved_on count (WasSubmitted (unwrap_or nearest 0) revision by) status moderation

-- where nothing is left one would start, and there is no workflow
nothing_at : (nearest : Option ℕ) (count workflow revision by : ℕ) (moderation : Moderation)
    (status : ModerationStatus) →
    is_none (event_at nearest count revision by moderation status) ≡ false →
    left_at nearest count workflow revision by moderation status ≡ None →
    (starts_anew status && is_none nearest) ≡ true
nothing_at nearest count workflow revision by moderation InProgress place none = absurd (cc)
nothing_at None count workflow revision by moderation Approved place none = refl
nothing_at (Some one) count workflow revision by moderation Approved place none = absurd (cc)
nothing_at nearest count workflow revision by moderation NeedsChanges place none = absurd (cc)
nothing_at None count workflow revision by moderation Cancelled place none = refl
nothing_at (Some one) count workflow revision by moderation Cancelled place none = absurd (cc)

-- what is left is what the event makes
something_at : (nearest : Option ℕ) (count workflow revision by : ℕ) (moderation left : Moderation)
    (status : ModerationStatus) →
    is_none (event_at nearest count revision by moderation status) ≡ false →
    left_at nearest count workflow revision by moderation status ≡ Some left →
    ((starts_anew status && is_none nearest) ≡ false)
    × (event_at nearest count revision by moderation status ≡ Some left)
something_at nearest count workflow revision by moderation left InProgress place is = absurd (cc)
something_at None count workflow revision by moderation left Approved place is = absurd (cc)
something_at (Some one) count workflow revision by moderation left Approved place is = (refl, is)
something_at nearest count workflow revision by moderation left NeedsChanges place is = (refl, is)
something_at None count workflow revision by moderation left Cancelled place is = absurd (cc)
something_at (Some one) count workflow revision by moderation left Cancelled place is = (refl, is)

-- both, of a page that may have had no moderation
nothing_left : (part : TreePart) (page revision by : ℕ) (had : Option Moderation) →
    is_none (moderated part.workflows
    (WasSubmitted (unwrap_or (nearest_workflow part page) 0) revision by) had) ≡ false →
    submitted part page revision by had ≡ None →
    (would_start had && is_none (nearest_workflow part page)) ≡ true
nothing_left part page revision by None place none = absent (nearest_workflow part page) none
  where
    absent : (nearest : Option ℕ) → starting nearest revision by ≡ None → is_none nearest ≡ true
    absent None is = refl
    absent (Some one) is = absurd (cc)
nothing_left part page revision by (Some moderation) place none =
    nothing_at (nearest_workflow part page) (length (list_at part.workflows moderation.workflow))
    moderation.workflow revision by moderation moderation.status place none

-- a submission that leaves a moderation has a workflow where it begins, and is what the table makes of it
something_left : (part : TreePart) (page revision by : ℕ) (had : Option Moderation)
    (left : Moderation) →
    is_none (moderated part.workflows
    (WasSubmitted (unwrap_or (nearest_workflow part page) 0) revision by) had) ≡ false →
    submitted part page revision by had ≡ Some left →
    ((would_start had && is_none (nearest_workflow part page)) ≡ false)
    × (moderated part.workflows
    (WasSubmitted (unwrap_or (nearest_workflow part page) 0) revision by) had ≡ Some left)
something_left part page revision by None left place is = there (nearest_workflow part page) is
  where
    there : (nearest : Option ℕ) → starting nearest revision by ≡ Some left →
        (is_none nearest ≡ false) × (Some (begun (unwrap_or nearest 0) revision by) ≡ Some left)
    there None is = absurd (cc)
    there (Some one) is = (refl, is)
something_left part page revision by (Some moderation) left place is =
    something_at (nearest_workflow part page) (length (list_at part.workflows moderation.workflow))
    moderation.workflow revision by moderation left moderation.status place is

module _ (part : TreePart) (page : ℕ) (body : Body) (found : body_of part.tree page ≡ Some body)
  where
    -- what an event makes of the moderation of a page of which this is kept
    pub event_is : (event : Event) → after_event part event page
        ≡ moderated part.workflows event body.moderation
    event_is event = rw found refl

    -- the moderation of such a page
    pub moderation_is : moderation_of part page ≡ body.moderation
    moderation_is = rw found refl

    -- an event that has no place
    pub out_of_place : (event : Event) → moderated part.workflows event body.moderation ≡ None →
        not_moderated part event page ≡ Some NotModerated
    out_of_place event none =
        ap (λ (o : Option Moderation). refused_if (is_none o) NotModerated) (event_is event ∙ none)

    -- an event that has a place
    pub in_place : (event : Event) (left : Moderation) →
        moderated part.workflows event body.moderation ≡ Some left →
        (not_moderated part event page ≡ None) × (after_event part event page ≡ Some left)
    in_place event left is = (
      ap (λ (o : Option Moderation). refused_if (is_none o) NotModerated) (event_is event ∙ is),
      event_is event ∙ is,
    )

    module _ (caller revision : ℕ) (latest : body.latest ≡ Some revision)
        (place : is_none (after_event part (submission part caller page) page) ≡ false) where
      -- what the submission makes of the moderation
      submission_is : after_event part (submission part caller page) page
          ≡ moderated part.workflows
          (WasSubmitted (unwrap_or (nearest_workflow part page) 0) revision caller) body.moderation
      submission_is = rw (found, latest) refl

      -- a submission that would start and finds no workflow
      pub no_start : submitted part page revision caller body.moderation ≡ None →
          submit_rules part page ≡ Some NoWorkflow
      no_start none =
          ap (λ (m : Option Moderation).
          refused_if (would_start m && is_none (nearest_workflow part page)) NoWorkflow) moderation_is
          ∙ ap (λ (t : Bool). refused_if t NoWorkflow)
          (nothing_left part page revision caller body.moderation
          (sym (ap is_none submission_is) ∙ place) none)

      -- a submission that leaves this moderation
      pub begins : (left : Moderation) →
          submitted part page revision caller body.moderation ≡ Some left →
          (submit_rules part page ≡ None)
          × (after_event part (submission part caller page) page ≡ Some left)
      begins left is =
          let both = something_left part page revision caller body.moderation left
          (sym (ap is_none submission_is) ∙ place) is in (
            ap (λ (m : Option Moderation).
                refused_if (would_start m && is_none (nearest_workflow part page)) NoWorkflow)
                moderation_is
                ∙ ap (λ (t : Bool). refused_if t NoWorkflow) both.0,
            submission_is ∙ both.1,
          )

-- a revision that is to be published is refused where it comes too late
pub late_refused : (moment : ℕ) (revision : Option Revision) →
    already_expired moment revision ≡ refused_if (is_any_late moment revision) AlreadyExpired
late_refused moment None = refl
late_refused moment (Some revision) = refl

-- what is not approved publishes nothing
unapproved : (part : TreePart) (left : Moderation) → is_approved left.status ≡ false →
    approved_revision part (Some left) ≡ None
unapproved part left is =
    ap (λ (t : Bool). cond t (revision_with left.revision part.revisions) None) is

-- what is at this status is not approved
at_other : (one left : Moderation) → ◌≡◌ {A = Option Moderation} (Some one) (Some left) →
    is_approved one.status ≡ false → is_approved left.status ≡ false
at_other one left same is =
    ap (λ (o : Option Moderation). is_approved (status_in o)) (sym same) ∙ is
  where
    status_in : Option Moderation → ModerationStatus
    status_in None = InProgress
    status_in (Some moderation) = moderation.status

-- a moderation that is rejected is not approved
pub rejected_stays : (part : TreePart) (had : Option Moderation) (left : Moderation) →
    moderated part.workflows WasRejected had ≡ Some left → approved_revision part (Some left) ≡ None
rejected_stays part None left is = absurd (cc)
rejected_stays part (Some moderation) left is = unapproved part left (by moderation.status is)
  where
    by : (status : ModerationStatus) →
        moved_on (length (list_at part.workflows moderation.workflow)) WasRejected status moderation
        ≡ Some left → is_approved left.status ≡ false
    by InProgress is = at_other (at_status NeedsChanges moderation) left is refl
    by Approved is = absurd (cc)
    by NeedsChanges is = absurd (cc)
    by Cancelled is = absurd (cc)

-- nor is one that is given up
pub cancelled_stays : (part : TreePart) (had : Option Moderation) (left : Moderation) →
    moderated part.workflows WasCancelled had ≡ Some left →
    approved_revision part (Some left) ≡ None
cancelled_stays part None left is = absurd (cc)
cancelled_stays part (Some moderation) left is = unapproved part left (by moderation.status is)
  where
    by : (status : ModerationStatus) →
        moved_on (length (list_at part.workflows moderation.workflow)) WasCancelled status moderation
        ≡ Some left → is_approved left.status ≡ false
    by InProgress is = at_other (at_status Cancelled moderation) left is refl
    by Approved is = absurd (cc)
    by NeedsChanges is = at_other (at_status Cancelled moderation) left is refl
    by Cancelled is = absurd (cc)

-- nor is one that begins or goes on
pub submitted_stays : (part : TreePart) (page revision user : ℕ) (had : Option Moderation)
    (left : Moderation) → submitted part page revision user had ≡ Some left →
    approved_revision part (Some left) ≡ None
submitted_stays part page revision user had left is = unapproved part left (by had is)
  where
    begins_so : (nearest : Option ℕ) → starting nearest revision user ≡ Some left →
        is_approved left.status ≡ false
    begins_so None same = absurd (cc)
    begins_so (Some one) same = at_other (begun one revision user) left same refl

    at : (moderation : Moderation) (status : ModerationStatus) →
        left_at (nearest_workflow part page)
        (length (list_at part.workflows moderation.workflow)) moderation.workflow revision user
        moderation status ≡ Some left → is_approved left.status ≡ false
    at moderation InProgress same = begins_so (nearest_workflow part page) same
    at moderation Approved same = begins_so (nearest_workflow part page) same
    at moderation NeedsChanges same =
        at_other (resumed revision user moderation) left same refl
    at moderation Cancelled same = begins_so (nearest_workflow part page) same

    by : (o : Option Moderation) → submitted part page revision user o ≡ Some left →
        is_approved left.status ≡ false
    by None same = begins_so (nearest_workflow part page) same
    by (Some moderation) same = at moderation moderation.status same

-- What the events of moderations leave fits its page, and what becomes of the page keeps a world
-- sound.
use Rattle.std.proofs.Common.{◌≡◌, ◌+◌, ℕ, Bool, true, false, cond, nat_lt, length, Option, None, Some, refl, arith}
use Rattle.std.specs.Prelude.{IfSome}
use Rattle.std.specs.Option.{option_and_then}
use Rattle.std.proofs.lemmas.Bool.Decides.{nat_tests}
use Rattle.site_ids.specs.Moment.{IsMoment}
use Rattle.site_types.specs.declared.body.Body.{Body}
use Rattle.site_types.specs.declared.moderation.Moderation.{Moderation}
use Rattle.site_types.specs.declared.moderation.ModerationStatus.{ModerationStatus}
use Rattle.site_types.specs.declared.moderation.ModerationStatus.TheVariants.{InProgress, Approved, NeedsChanges, Cancelled}
use Rattle.site_types.specs.declared.revision.Revision.{Revision}
use Rattle.site_model.specs.World.{TreePart, time_at}
use Rattle.site_model.specs.Views.{list_at, body_of}
use Rattle.site_model.specs.Bodies.{revision_with}
use Rattle.site_model.specs.Moderations.{Event, WasApproved, WasRejected, WasCancelled, advanced, at_status, moved_on, started, moderated}
use Rattle.site_model.specs.Moderating.{moderation_of, after_event, is_approved, approved_revision, body_published, answered}
use Rattle.site_model.specs.Sound.{IsAliasBody, FitsModeration}
use Rattle.site_model.proofs.BodySound.{IsKept, no_alias, body_keeps_sound}
use Rattle.site_model.proofs.Groups.{AreGroups}
use Rattle.site_model.proofs.PublishSound.{MayPublish, found_by_id, kept_body, same_kind, published_fits}
use Rattle.site_model.proofs.RegularLemmas.{HasNoSource}

-- A moderation of a page of this part.
abbrev pub FitsPage : TreePart → ℕ → Moderation → Type 0
FitsPage part page moderation =
    FitsModeration part.revisions part.next_user part.next_workflow part.workflows page moderation

-- how many tasks the workflow of a moderation has
abbrev pub task_count : TreePart → Moderation → ℕ
task_count part moderation = length (list_at part.workflows moderation.workflow)

-- a moderation with another status fits
at_status_fits : (part : TreePart) (page : ℕ) (status : ModerationStatus)
    (moderation : Moderation) → FitsPage part page moderation →
    FitsPage part page (at_status status moderation)
at_status_fits part page status moderation is = record {
  workflow = is.workflow;
  task_counted = is.task_counted;
  task_within = is.task_within;
  revision = is.revision;
  by = is.by;
}

-- so does one whose current task is approved
advanced_fits : (part : TreePart) (page : ℕ) (moderation : Moderation) →
    FitsPage part page moderation →
    FitsPage part page (advanced (task_count part moderation) moderation)
advanced_fits part page moderation is =
    choice (nat_lt moderation.task (task_count part moderation)) refl
  where
    choice : (t : Bool) → nat_lt moderation.task (task_count part moderation) ≡ t →
        FitsPage part page (cond t (record moderation { task = moderation.task + 1 })
        (record moderation { status = Approved }))
    choice true below = record {
      workflow = is.workflow;
      task_counted = omega arith;
      task_within = grind (arith, nat_tests, below);
      revision = is.revision;
      by = is.by;
    }
    choice false last = at_status_fits part page Approved moderation is

-- What an event is that answers a moderation of the page: it begins none, and what it leaves fits.
pub record IsAnswer (part : TreePart) (page : ℕ) (event : Event) : Type 0 where
  pub begins_none : started event ≡ None
  pub leaves :
      (moderation : Moderation) → FitsPage part page moderation →
      IfSome (moved_on (task_count part moderation) event moderation.status moderation)
      (FitsPage part page)

-- an approval is such an event
pub is_approval : (part : TreePart) (page : ℕ) → IsAnswer part page WasApproved
is_approval part page = record {
  begins_none = refl;
  leaves = λ moderation is. by_status moderation moderation.status is;
}
  where
    by_status : (moderation : Moderation) (status : ModerationStatus) →
        FitsPage part page moderation →
        IfSome (moved_on (task_count part moderation) WasApproved status moderation)
        (FitsPage part page)
    by_status moderation InProgress is = advanced_fits part page moderation is
    by_status moderation Approved is = tt
    by_status moderation NeedsChanges is = tt
    by_status moderation Cancelled is = tt

-- so is a rejection
pub is_rejection : (part : TreePart) (page : ℕ) → IsAnswer part page WasRejected
is_rejection part page = record {
  begins_none = refl;
  leaves = λ moderation is. by_status moderation moderation.status is;
}
  where
    by_status : (moderation : Moderation) (status : ModerationStatus) →
        FitsPage part page moderation →
        IfSome (moved_on (task_count part moderation) WasRejected status moderation)
        (FitsPage part page)
    by_status moderation InProgress is = at_status_fits part page NeedsChanges moderation is
    by_status moderation Approved is = tt
    by_status moderation NeedsChanges is = tt
    by_status moderation Cancelled is = tt

-- and a moderation that is given up
pub is_giving_up : (part : TreePart) (page : ℕ) → IsAnswer part page WasCancelled
is_giving_up part page = record {
  begins_none = refl;
  leaves = λ moderation is. by_status moderation moderation.status is;
}
  where
    by_status : (moderation : Moderation) (status : ModerationStatus) →
        FitsPage part page moderation →
        IfSome (moved_on (task_count part moderation) WasCancelled status moderation)
        (FitsPage part page)
    by_status moderation InProgress is = at_status_fits part page Cancelled moderation is
    by_status moderation Approved is = tt
    by_status moderation NeedsChanges is = at_status_fits part page Cancelled moderation is
    by_status moderation Cancelled is = tt

-- the moderation of a page of a sound part fits it
pub moderation_fits : (part : TreePart) (page : ℕ) → AreGroups part →
    IfSome (moderation_of part page) (FitsPage part page)
moderation_fits part page sound = by_body (body_of part.tree page) refl
  where
    by_body : (found : Option Body) → body_of part.tree page ≡ found →
        IfSome (option_and_then (λ body. body.moderation) found) (FitsPage part page)
    by_body None at = tt
    by_body (Some body) at = (kept_body part page body sound at).moderation

-- what an answer leaves of the moderation of a page fits it
pub answer_fits : (part : TreePart) (page : ℕ) (event : Event) → AreGroups part →
    IsAnswer part page event → IfSome (after_event part event page) (FitsPage part page)
answer_fits part page event sound answer =
    by_moderation (moderation_of part page) (moderation_fits part page sound)
  where
    by_moderation : (moderation : Option Moderation) →
        IfSome moderation (FitsPage part page) →
        IfSome (moderated part.workflows event moderation) (FitsPage part page)
    by_moderation None is = rw (answer.begins_none) tt
    by_moderation (Some moderation) is = answer.leaves moderation is

-- a page whose moderation is answered is no alias
pub answered_source : (part : TreePart) (page : ℕ) (event : Event) (left : Moderation) →
    AreGroups part → IsAnswer part page event → after_event part event page ≡ Some left →
    HasNoSource part.tree page
answered_source part page event left sound answer is body at =
    by_source body.source refl (kept_body part page body sound at).alias
  where
    moved : moderated part.workflows event body.moderation ≡ Some left
    moved = rw at at is

    by_source : (source : Option ℕ) → body.source ≡ source →
        IfSome source (λ one. IsAliasBody part.revisions page body) → body.source ≡ None
    by_source None same alias = same
    by_source (Some source) same alias =
        let none = rw (alias.moderation, answer.begins_none) at moved in absurd (cc)

-- the revision that an approval publishes may be published
revision_may : (part : TreePart) (page : ℕ) (moderation : Moderation) → AreGroups part →
    FitsPage part page moderation →
    IfSome (approved_revision part (Some moderation)) (MayPublish part page)
revision_may part page moderation sound fits =
    choice (is_approved moderation.status)
    (by_found (revision_with moderation.revision part.revisions) refl)
  where
    by_found : (found : Option Revision) →
        revision_with moderation.revision part.revisions ≡ found →
        IfSome found (MayPublish part page)
    by_found None at = tt
    by_found (Some revision) at =
        found_by_id part page moderation.revision revision sound at fits.revision

    choice : (t : Bool) →
        IfSome (revision_with moderation.revision part.revisions) (MayPublish part page) →
        IfSome (cond t (revision_with moderation.revision part.revisions) None)
        (MayPublish part page)
    choice true may = may
    choice false may = tt

-- what is kept of a page with another moderation
moderated_fits : (part : TreePart) (page : ℕ) (moderation : Moderation) (body : Body) →
    (page ≡ 1 → ⊥) → FitsPage part page moderation → IsKept part page body →
    body.source ≡ None → IsKept part page (record body { moderation = Some moderation })
moderated_fits part page moderation body below fits kept none = record {
  root = λ is. absurd (below is);
  regular = λ other regular.
      let own = kept.regular other regular in
      record {
        shown = own.shown;
        latest = own.latest;
        last = own.last;
        scheduled = own.scheduled;
      };
  alias = no_alias part.revisions page (record body { moderation = Some moderation }) body.source
      none;
  owner = kept.owner;
  lock = kept.lock;
  assigned = kept.assigned;
  moderation = fits;
  first_published = kept.first_published;
  last_published = kept.last_published;
}

-- the same, with a revision published where there is one
answered_fits : (part : TreePart) (page moment : ℕ) (moderation : Moderation)
    (published : Option Revision) (body : Body) → (page ≡ 1 → ⊥) → IsMoment moment →
    FitsPage part page moderation → IfSome published (MayPublish part page) →
    IsKept part page body → body.source ≡ None →
    IsKept part page (record (body_published moment published body) {
      moderation = Some moderation;
    })
answered_fits part page moment moderation None body below is fits may kept none =
    moderated_fits part page moderation body below fits kept none
answered_fits part page moment moderation (Some revision) body below is fits may kept none =
    published_fits part page moment revision (Some moderation) body below is may fits kept none

-- an answered page keeps its source
pub answered_kind : (moment : ℕ) (published : Option Revision) (body : Body) →
    (body_published moment published body).source ≡ body.source
answered_kind moment None body = refl
answered_kind moment (Some revision) body = (same_kind moment revision body).0

-- what becomes of a page with a moderation that fits it keeps a world sound
pub answered_keeps_sound : (part : TreePart) (now page : ℕ) (moderation : Moderation) →
    AreGroups part → IsMoment now → (page ≡ 1 → ⊥) → HasNoSource part.tree page →
    FitsPage part page moderation → AreGroups (answered part now page (Some moderation)).part
answered_keeps_sound part now page moderation sound moment below regular fits =
    let published = approved_revision part (Some moderation) in
    let at : IsMoment (time_at part now) = omega (arith, sound.time, moment) in
    body_keeps_sound part now page
    (λ body. record (body_published (time_at part now) published body) {
      moderation = Some moderation;
    }) sound moment
    (record {
      source = λ body. answered_kind (time_at part now) published body;
      kept = λ body found kept. answered_fits part page (time_at part now) moderation published
          body below at fits (revision_may part page moderation sound fits) kept
          (regular body found);
    })

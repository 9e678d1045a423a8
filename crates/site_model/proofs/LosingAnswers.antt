-- Which desks an event of a moderation ends.
use Rattle.std.proofs.Common.{◌≡◌, ℕ, Bool, true, false, not, ◌&&◌, nat_eq, List, Option, Some, None, Ok, refl, sym, ap, ◌∙◌}
use Rattle.std.specs.Option.{option_map, option_or}
use Rattle.site_types.specs.Content.{ContentValue}
use Rattle.site_types.specs.declared.body.Body.{Body}
use Rattle.site_types.specs.declared.command.Command.{Command}
use Rattle.site_types.specs.declared.command.Command.TheVariants.{Publish, Submit, Approve, Reject, Cancel}
use Rattle.site_types.specs.declared.moderation.Moderation.{Moderation}
use Rattle.site_types.specs.declared.moderation.ModerationStatus.{ModerationStatus}
use Rattle.site_types.specs.declared.moderation.ModerationStatus.TheVariants.{InProgress, Approved, NeedsChanges, Cancelled}
use Rattle.site_types.specs.declared.revision.Revision.{Revision}
use Rattle.site_model.specs.World.{DeskPair, TreePart, Effect, time_at}
use Rattle.site_model.specs.Rights.{rights_of}
use Rattle.site_model.specs.Views.{View, stage_of}
use Rattle.site_model.specs.Bodies.{latest_of}
use Rattle.site_model.specs.Desks.{desk_page, keeps_desk, stays}
use Rattle.site_model.specs.Moderations.{WasApproved, WasRejected, WasCancelled, WasPublished, moved_on, after_publishing}
use Rattle.site_model.specs.Moderating.{moderation_of, after_event, submission, approved_revision, body_published, answered}
use Rattle.site_model.specs.Publishing.{published_body, publish}
use Rattle.site_model.specs.Step.{step_by}
use Rattle.site_model.specs.Step as steps
use Rattle.site_model.specs.Sound.{IsSoundPart}
use Rattle.site_model.specs.Losing.{suspects_of, shuts, is_lost, lost_desks}
use Rattle.site_model.specs.LosingLaws.{seen_with, stays_with, desks_lost_with}
use Rattle.site_model.proofs.AcceptLemmas.{accepted}
use Rattle.site_model.proofs.LosingTrees.{way_to, way_changed, way-rebodied}
use Rattle.site_model.proofs.LosingRights.{viewed_at, view_at, stays_at, stays_by_way}
use Rattle.site_model.proofs.LosingLemmas.{filter_alike}
use Rattle.site_model.proofs.LosingBodies.{body_changed}
use Rattle.site_model.proofs.LosingStages.{published_keeps}
use Rattle.site_model.proofs.LosingFacts.{settled_as, each_of}
use Rattle.site_model.proofs.LosingSteps.{ended_are}

-- What of a page decides who may work there is the same, but for where its moderation stands.
record KeepsButStage (part : TreePart) (left : Option Moderation) (before after : Body) :
    Type 0 where
  owner : after.owner ≡ before.owner
  locked_by : after.locked_by ≡ before.locked_by
  stage : stage_of part after.moderation ≡ stage_of part left

-- what is seen then
view_with : (part : TreePart) (left : Option Moderation) (change : Body → Body)
    (way : Option (List ℕ × Body)) →
    ((body : Body) → KeepsButStage part left body (change body)) →
    viewed_at part (way_changed true change way)
    ≡ option_map (seen_with part left) (viewed_at part way)
view_with part left change None kept = refl
view_with part left change (Some way) kept =
    let same = kept way.1 in rw (same.owner, same.locked_by, same.stage) refl

-- a desk on the page stays by that
stays_moderated : (part : TreePart) (page : ℕ) (left : Option Moderation) (change : Body → Body)
    (pair : DeskPair) → ((body : Body) → KeepsButStage part left body (change body)) →
    nat_eq pair.page page ≡ true →
    stays (body_changed page change part) pair ≡ stays_with part left pair
stays_moderated part page left change pair kept same =
    let rights = rights_of part pair.user in
    stays_by_way (body_changed page change part) pair
    ∙ ap (λ (way : Option (List ℕ × Body)). stays_at part rights way)
    (way-rebodied pair.page page change part.tree)
    ∙ ap (λ (own : Bool). stays_at part rights
    (way_changed own change (way_to pair.page part.tree))) same
    ∙ ap (λ (found : Option View). keeps_desk rights found)
    (view_with part left change (way_to pair.page part.tree) kept)
    ∙ ap (λ (found : Option View). keeps_desk rights (option_map (seen_with part left) found))
    (sym (view_at part pair.page))

-- a suspect on the page is lost by that
where_same : (same stay other : Bool) → (same ≡ true → stay ≡ other) →
    (same && not stay) ≡ (same && not other)
where_same true stay other told = rw (told refl) refl
where_same false stay other told = refl

-- the desks that end on a page, where those on it stay by its moderation
lost_with : (before after : TreePart) (caller page : ℕ) (command : Command)
    (left : Option Moderation) →
    ((pair : DeskPair) →
    is_lost before after caller command pair ≡ (nat_eq pair.page page && not (stays after pair))) →
    ((pair : DeskPair) → nat_eq pair.page page ≡ true →
    stays after pair ≡ stays_with before left pair) →
    lost_desks before after caller command ≡ desks_lost_with before page left
lost_with before after caller page command left lost stay =
    filter_alike (is_lost before after caller command)
    (λ (pair : DeskPair). nat_eq pair.page page && not (stays_with before left pair))
    before.desk_pairs
    (each_of (λ (pair : DeskPair). is_lost before after caller command pair
    ≡ (nat_eq pair.page page && not (stays_with before left pair))) before.desk_pairs
    (λ pair. lost pair ∙ where_same (nat_eq pair.page page) (stays after pair)
    (stays_with before left pair) (stay pair)))

-- an answered page keeps its owner and its lock
answered_keeps : (part : TreePart) (moment : ℕ) (left : Moderation) (published : Option Revision)
    (body : Body) →
    KeepsButStage part (Some left) body
    (record (body_published moment published body) { moderation = Some left })
answered_keeps part moment left None body =
    record { owner = refl; locked_by = refl; stage = refl }
answered_keeps part moment left (Some revision) body =
    let kept = published_keeps moment revision body in
    record { owner = kept.owner; locked_by = kept.locked_by; stage = refl }

-- a desk on an answered page stays by what is left of its moderation
answered_stays : (part : TreePart) (now page : ℕ) (found : Option Moderation) (left : Moderation)
    (pair : DeskPair) → found ≡ Some left → nat_eq pair.page page ≡ true →
    stays (answered part now page found).part pair ≡ stays_with part (Some left) pair
answered_stays part now page found left pair at same =
    let published = approved_revision part (Some left) in
    ap (λ (one : Option Moderation). stays (answered part now page one).part pair) at
    ∙ stays_moderated part page (Some left)
    (λ body. record (body_published (time_at part now) published body) { moderation = Some left })
    pair (answered_keeps part (time_at part now) left published) same

-- An accepted submission ends the desk on the page where it does not stay with the moderation that
-- is left, and no other.
pub submit_ends : (before after : TreePart) (told : Effect) (desk : Option ContentValue)
    (now caller page : ℕ) (left : Moderation) → IsSoundPart before →
    after_event before (submission before caller page) page ≡ Some left →
    step_by before desk now caller (Submit page) ≡ Ok (after, told) →
    told.ended ≡ desks_lost_with before page (Some left)
unfolding steps.effect desk_page suspects_of shuts
submit_ends before after told desk now caller page left sound at is =
    let one = accepted before after told desk now caller (Submit page) is in
    (ended_are before after told desk now caller (Submit page) sound is).ended
    ∙ lost_with before after caller page (Submit page) (Some left) (λ pair. refl)
    (λ pair same.
    settled_as after told caller None (steps.effect before desk now caller (Submit page)) pair
    one.done
    ∙ answered_stays before now page (after_event before (submission before caller page) page)
    left pair at same)

-- So does an approval.
pub approve_ends : (before after : TreePart) (told : Effect) (desk : Option ContentValue)
    (now caller page : ℕ) (left : Moderation) → IsSoundPart before →
    after_event before WasApproved page ≡ Some left →
    step_by before desk now caller (Approve page) ≡ Ok (after, told) →
    told.ended ≡ desks_lost_with before page (Some left)
unfolding steps.effect desk_page suspects_of shuts
approve_ends before after told desk now caller page left sound at is =
    let one = accepted before after told desk now caller (Approve page) is in
    (ended_are before after told desk now caller (Approve page) sound is).ended
    ∙ lost_with before after caller page (Approve page) (Some left) (λ pair. refl)
    (λ pair same.
    settled_as after told caller None (steps.effect before desk now caller (Approve page)) pair
    one.done
    ∙ answered_stays before now page (after_event before WasApproved page) left pair at same)

-- So does a rejection.
pub reject_ends : (before after : TreePart) (told : Effect) (desk : Option ContentValue)
    (now caller page : ℕ) (left : Moderation) → IsSoundPart before →
    after_event before WasRejected page ≡ Some left →
    step_by before desk now caller (Reject page) ≡ Ok (after, told) →
    told.ended ≡ desks_lost_with before page (Some left)
unfolding steps.effect desk_page suspects_of shuts
reject_ends before after told desk now caller page left sound at is =
    let one = accepted before after told desk now caller (Reject page) is in
    (ended_are before after told desk now caller (Reject page) sound is).ended
    ∙ lost_with before after caller page (Reject page) (Some left) (λ pair. refl)
    (λ pair same.
    settled_as after told caller None (steps.effect before desk now caller (Reject page)) pair
    one.done
    ∙ answered_stays before now page (after_event before WasRejected page) left pair at same)

-- So does a moderation that is given up.
pub cancel_ends : (before after : TreePart) (told : Effect) (desk : Option ContentValue)
    (now caller page : ℕ) (left : Moderation) → IsSoundPart before →
    after_event before WasCancelled page ≡ Some left →
    step_by before desk now caller (Cancel page) ≡ Ok (after, told) →
    told.ended ≡ desks_lost_with before page (Some left)
unfolding steps.effect desk_page suspects_of shuts
cancel_ends before after told desk now caller page left sound at is =
    let one = accepted before after told desk now caller (Cancel page) is in
    (ended_are before after told desk now caller (Cancel page) sound is).ended
    ∙ lost_with before after caller page (Cancel page) (Some left) (λ pair. refl)
    (λ pair same.
    settled_as after told caller None (steps.effect before desk now caller (Cancel page)) pair
    one.done
    ∙ answered_stays before now page (after_event before WasCancelled page) left pair at same)

-- a moderation that is given up, or over, is not in progress
not_in_progress : (part : TreePart) (moderation : Option Moderation) →
    stage_of part (after_publishing moderation) ≡ None
not_in_progress part None = refl
not_in_progress part (Some moderation) = by_status moderation moderation.status refl
  where
    by_status : (one : Moderation) (status : ModerationStatus) → one.status ≡ status →
        stage_of part (option_or (moved_on 0 WasPublished status one) (Some one)) ≡ None
    by_status one InProgress is = refl
    by_status one Approved is = rw is refl
    by_status one NeedsChanges is = refl
    by_status one Cancelled is = rw is refl

-- a published page keeps its owner and its lock, and is not moderated
published_stage : (part : TreePart) (moment : ℕ) (revision : Revision)
    (moderation : Option Moderation) (body : Body) →
    KeepsButStage part (after_publishing moderation) body
    (record (published_body moment revision body) {
      moderation = after_publishing body.moderation;
    })
published_stage part moment revision moderation body =
    let kept = published_keeps moment revision body in
    record {
      owner = kept.owner;
      locked_by = kept.locked_by;
      stage = not_in_progress part body.moderation ∙ sym (not_in_progress part moderation);
    }

-- To publish a page ends the desk on it where it does not stay once the moderation is given up.
pub publish_ends : (before after : TreePart) (told : Effect) (desk : Option ContentValue)
    (now caller page : ℕ) (revision : Revision) → IsSoundPart before →
    latest_of before page ≡ Some revision →
    step_by before desk now caller (Publish page) ≡ Ok (after, told) →
    told.ended ≡ desks_lost_with before page (after_publishing (moderation_of before page))
unfolding steps.effect desk_page suspects_of shuts
publish_ends before after told desk now caller page revision sound at is =
    let one = accepted before after told desk now caller (Publish page) is in
    let left = after_publishing (moderation_of before page) in
    (ended_are before after told desk now caller (Publish page) sound is).ended
    ∙ lost_with before after caller page (Publish page) left (λ pair. refl)
    (λ pair same.
    settled_as after told caller None (steps.effect before desk now caller (Publish page)) pair
    one.done
    ∙ ap (λ (found : Option Revision). stays (publish before now page found).part pair) at
    ∙ stays_moderated before page left
    (λ body. record (published_body (time_at before now) revision body) {
      moderation = after_publishing body.moderation;
    }) pair (published_stage before (time_at before now) revision (moderation_of before page)) same)

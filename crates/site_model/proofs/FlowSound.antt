-- The commands on tasks, workflows and moderations keep a world sound, before its desks are looked
-- at.
use Rattle.std.proofs.Common.{◌≡◌, ℕ, false, true, List, [], Option, Some, None, refl, sym, arith}
use Rattle.std.specs.Prelude.{IfSome}
use Rattle.site_ids.specs.Moment.{IsMoment}
use Rattle.site_types.specs.Content.{ContentValue}
use Rattle.site_types.specs.declared.command.Command.TheVariants as commands
use Rattle.site_types.specs.declared.moderation.Moderation.{Moderation}
use Rattle.site_types.specs.declared.reply.Reply.TheVariants.{Done}
use Rattle.site_model.specs.World.{TreePart, time_at}
use Rattle.site_model.specs.Needs.{needs_of, edit_needs, answer_needs, cancel_needs}
use Rattle.site_model.specs.Front.{StopsNobody, StopsOthers, StopsEveryone, row_of, on_page, front_rules}
use Rattle.site_model.specs.Moderations.{Event, WasApproved, WasRejected, WasCancelled}
use Rattle.site_model.specs.Moderating.{after_event, approved_revision, submission, answered, answer}
use Rattle.site_model.specs.Desks.{desk_page}
use Rattle.site_model.specs.Step.{rules}
use Rattle.site_model.specs.Step as steps
use Rattle.site_model.specs.Laws.{FitsCommand}
use Rattle.site_model.proofs.AcceptLemmas.{front_parts, page_found}
use Rattle.site_model.proofs.Deeds.{KeepsSound, below_root, plain_keeps}
use Rattle.site_model.proofs.DraftSound.{body_stays}
use Rattle.site_model.proofs.Groups.{AreGroups}
use Rattle.site_model.proofs.ModerationSound.{FitsPage, IsAnswer, is_approval, is_rejection, is_giving_up, answer_fits, answered_source, answered_kind, answered_keeps_sound}
use Rattle.site_model.proofs.RegularLemmas.{HasNoSource, same_regular, not_alias}
use Rattle.site_model.proofs.StrangerLemmas.{editor_is_user}
use Rattle.site_model.proofs.SubmitSound.{submit_fits}
use Rattle.site_model.proofs.TaskSound.{task_keeps_sound, workflow_keeps_sound, assign_keeps_sound}

-- a task is defined
pub task_sound : (part : TreePart) (desk : Option ContentValue) (now caller : ℕ)
    (groups : List ℕ) → AreGroups part → IsMoment now →
    FitsCommand (commands.DefineTask groups) →
    rules part desk now caller (commands.DefineTask groups) ≡ None →
    KeepsSound part caller (desk_page (commands.DefineTask groups))
    (steps.effect part desk now caller (commands.DefineTask groups))
unfolding rules steps.effect desk_page
task_sound part desk now caller groups sound moment fits own =
    plain_keeps part _ caller None _
    (task_keeps_sound part now groups sound moment fits.0 fits.1 own) (same_regular part.tree) refl
    (omega arith)

-- a workflow is defined
pub workflow_sound : (part : TreePart) (desk : Option ContentValue) (now caller : ℕ)
    (tasks : List ℕ) → AreGroups part → IsMoment now →
    FitsCommand (commands.DefineWorkflow tasks) →
    rules part desk now caller (commands.DefineWorkflow tasks) ≡ None →
    KeepsSound part caller (desk_page (commands.DefineWorkflow tasks))
    (steps.effect part desk now caller (commands.DefineWorkflow tasks))
unfolding rules steps.effect desk_page
workflow_sound part desk now caller tasks sound moment fits own =
    plain_keeps part _ caller None _
    (workflow_keeps_sound part now tasks sound moment fits own) (same_regular part.tree) refl
    (omega arith)

-- a page gets a workflow, or none
pub assign_sound : (part : TreePart) (desk : Option ContentValue) (now caller page : ℕ)
    (workflow : Option ℕ) → AreGroups part → IsMoment now →
    rules part desk now caller (commands.Assign page workflow) ≡ None →
    KeepsSound part caller (desk_page (commands.Assign page workflow))
    (steps.effect part desk now caller (commands.Assign page workflow))
unfolding rules steps.effect desk_page
assign_sound part desk now caller page workflow sound moment own =
    plain_keeps part _ caller None _
    (assign_keeps_sound part now page workflow sound moment own)
    (body_stays part page (λ body. record body { workflow = workflow }) (λ body. refl)) refl
    (omega arith)

-- what becomes of a page by an event, where its moderation fits it
event_sound : (part : TreePart) (now caller page : ℕ) (left : Option Moderation) →
    AreGroups part → IsMoment now → (page ≡ 1 → ⊥) → IfSome left (FitsPage part page) →
    ((moderation : Moderation) → left ≡ Some moderation → HasNoSource part.tree page) →
    KeepsSound part caller None (answered part now page left)
event_sound part now caller page None sound moment below fits regular =
    plain_keeps part part caller None Done sound (same_regular part.tree) refl (omega arith)
event_sound part now caller page (Some moderation) sound moment below fits regular =
    plain_keeps part _ caller None _
    (answered_keeps_sound part now page moderation sound moment below (regular moderation refl)
    fits)
    (body_stays part page _
    (λ body. answered_kind (time_at part now) (approved_revision part (Some moderation)) body))
    refl (omega arith)

-- a page is submitted
pub submit_sound : (part : TreePart) (desk : Option ContentValue) (now caller page : ℕ) →
    AreGroups part → IsMoment now →
    front_rules part caller (commands.Submit page) ≡ None →
    rules part desk now caller (commands.Submit page) ≡ None →
    KeepsSound part caller (desk_page (commands.Submit page))
    (steps.effect part desk now caller (commands.Submit page))
unfolding front_rules row_of needs_of rules steps.effect desk_page
submit_sound part desk now caller page sound moment front own =
    let parts = front_parts part caller (on_page page StopsOthers true StopsEveryone)
    (edit_needs part caller page) front in
    let found = page_found part.tree page [] parts.pages in
    let below = λ (same : page ≡ 1). below_root page parts.below (sym same) in
    let regular = not_alias part.tree page parts.kind in
    event_sound part now caller page (after_event part (submission part caller page) page) sound
    moment below
    (submit_fits part caller page sound below found.0 regular
    (editor_is_user part caller page sound.people parts.may) own)
    (λ moderation is. regular)

-- what becomes of a page by an answer to its moderation
answer_sound : (part : TreePart) (now caller page : ℕ) (event : Event) → AreGroups part →
    IsMoment now → (page ≡ 1 → ⊥) → IsAnswer part page event →
    KeepsSound part caller None (answer part now event page)
answer_sound part now caller page event sound moment below is =
    event_sound part now caller page (after_event part event page) sound moment below
    (answer_fits part page event sound is)
    (λ moderation left. answered_source part page event moderation sound is left)

-- the current task of a moderation is approved
pub approve_sound : (part : TreePart) (desk : Option ContentValue) (now caller page : ℕ) →
    AreGroups part → IsMoment now →
    front_rules part caller (commands.Approve page) ≡ None →
    KeepsSound part caller (desk_page (commands.Approve page))
    (steps.effect part desk now caller (commands.Approve page))
unfolding front_rules row_of needs_of steps.effect desk_page
approve_sound part desk now caller page sound moment front =
    let parts = front_parts part caller (on_page page StopsNobody false StopsNobody)
    (answer_needs part caller page) front in
    answer_sound part now caller page WasApproved sound moment
    (λ same. below_root page parts.below (sym same)) (is_approval part page)

-- it is rejected
pub reject_sound : (part : TreePart) (desk : Option ContentValue) (now caller page : ℕ) →
    AreGroups part → IsMoment now →
    front_rules part caller (commands.Reject page) ≡ None →
    KeepsSound part caller (desk_page (commands.Reject page))
    (steps.effect part desk now caller (commands.Reject page))
unfolding front_rules row_of needs_of steps.effect desk_page
reject_sound part desk now caller page sound moment front =
    let parts = front_parts part caller (on_page page StopsNobody false StopsNobody)
    (answer_needs part caller page) front in
    answer_sound part now caller page WasRejected sound moment
    (λ same. below_root page parts.below (sym same)) (is_rejection part page)

-- a moderation is given up
pub cancel_sound : (part : TreePart) (desk : Option ContentValue) (now caller page : ℕ) →
    AreGroups part → IsMoment now →
    front_rules part caller (commands.Cancel page) ≡ None →
    KeepsSound part caller (desk_page (commands.Cancel page))
    (steps.effect part desk now caller (commands.Cancel page))
unfolding front_rules row_of needs_of steps.effect desk_page
cancel_sound part desk now caller page sound moment front =
    let parts = front_parts part caller (on_page page StopsNobody false StopsNobody)
    (cancel_needs part caller page) front in
    answer_sound part now caller page WasCancelled sound moment
    (λ same. below_root page parts.below (sym same)) (is_giving_up part page)

-- The rules of tasks, workflows and moderations never say that a need is not met.
use Rattle.std.proofs.Common.{◌≡◌, ℕ, false, not, ◌||◌, ◌&&◌, List, [], ◌∷◌, Option, Some, None, refl}
use Rattle.std.specs.Option.{is_none}
use Rattle.site_ids.specs.declared.ids.TheConstants.{LAST_TASK_ID, LAST_WORKFLOW_ID}
use Rattle.site_types.specs.declared.refusal.NameKind.TheVariants as kinds
use Rattle.site_types.specs.declared.refusal.Refusal.TheVariants.{NothingNew, NoName, NoWorkflow, NotModerated, AlreadyExpired}
use Rattle.site_types.specs.declared.revision.Revision.{Revision}
use Rattle.site_model.specs.World.{TreePart, time_at}
use Rattle.site_model.specs.Rules.{refused_if, ids_full, is_given}
use Rattle.site_model.specs.Views.{body_of}
use Rattle.site_model.specs.Bodies.{has_body, same_number}
use Rattle.site_model.specs.Publishing.{has_expired, expires_first}
use Rattle.site_model.specs.Moderations.{Event, WasApproved}
use Rattle.site_model.specs.Moderating.{nearest_workflow, moderation_of, would_start, submit_rules, after_event, not_moderated, approved_revision, already_expired, approve_rules}
use Rattle.site_model.specs.Tasks.{one_missing, task_rules, workflow_rules, no_workflow, assign_rules}
use Rattle.site_model.proofs.DenialLemmas.{is_denied, test_says, all_say, ids_say, new_says}

-- those of the definition of a task
pub task_says : (part : TreePart) (groups : List ℕ) → is_denied (task_rules part groups) ≡ false
task_says part groups =
    let missing = one_missing part.next_group groups in
    all_say
    (refused_if missing (NoName kinds.Group) ∷ ids_full LAST_TASK_ID part.next_task ∷ [])
    (test_says missing (NoName kinds.Group) refl, (ids_say LAST_TASK_ID part.next_task, tt))

-- those of the definition of a workflow
pub workflow_says : (part : TreePart) (tasks : List ℕ) →
    is_denied (workflow_rules part tasks) ≡ false
workflow_says part tasks =
    let missing = one_missing part.next_task tasks in
    all_say
    (refused_if missing (NoName kinds.Task) ∷ ids_full LAST_WORKFLOW_ID part.next_workflow ∷ [])
    (test_says missing (NoName kinds.Task) refl, (ids_say LAST_WORKFLOW_ID part.next_workflow, tt))

-- nor a workflow that is not there
no_workflow_says : (part : TreePart) (workflow : Option ℕ) →
    is_denied (no_workflow part workflow) ≡ false
no_workflow_says part None = refl
no_workflow_says part (Some id) =
    test_says (not (is_given part.next_workflow id)) (NoName kinds.Workflow) refl

-- those of an assignment
pub assign_says : (part : TreePart) (page : ℕ) (workflow : Option ℕ) →
    is_denied (assign_rules part page workflow) ≡ false
assign_says part page workflow =
    let same = has_body (λ body. same_number body.workflow workflow) (body_of part.tree page) in
    all_say (refused_if same NothingNew ∷ no_workflow part workflow ∷ [])
    (new_says same, (no_workflow_says part workflow, tt))

-- that of submitting a page
pub submit_says : (part : TreePart) (page : ℕ) → is_denied (submit_rules part page) ≡ false
submit_says part page =
    test_says
    (would_start (moderation_of part page) && is_none (nearest_workflow part page)) NoWorkflow refl

-- that of an event
pub event_says : (part : TreePart) (event : Event) (page : ℕ) →
    is_denied (not_moderated part event page) ≡ false
event_says part event page = test_says (is_none (after_event part event page)) NotModerated refl

-- nor a revision that has expired
expiry_says : (moment : ℕ) (found : Option Revision) →
    is_denied (already_expired moment found) ≡ false
expiry_says moment None = refl
expiry_says moment (Some revision) =
    test_says (has_expired moment revision || expires_first revision) AlreadyExpired refl

-- those of an approval
pub approve_says : (part : TreePart) (now page : ℕ) →
    is_denied (approve_rules part now page) ≡ false
approve_says part now page =
    let expired = already_expired (time_at part now)
    (approved_revision part (after_event part WasApproved page)) in
    all_say (not_moderated part WasApproved page ∷ expired ∷ []) (
      event_says part WasApproved page,
      (
        expiry_says (time_at part now)
            (approved_revision part (after_event part WasApproved page)),
        tt,
      ),
    )

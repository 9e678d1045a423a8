-- Where moderations stand after a task or a workflow is defined, and what a tick keeps of the rights
-- to work on pages.
use Rattle.std.proofs.Common.{◌≡◌, ◌<◌, ◌≤◌, ◌+◌, ℕ, zero, suc, Bool, true, false, cond, nat_eq, List, [], ◌∷◌, ◌++◌, length, Option, Some, None, refl, ◌∙◌, arith}
use Rattle.std.specs.Prelude.{IfSome}
use Rattle.std.specs.List.{AllByRecursion}
use Rattle.page_tree.specs.Tree.{Forest, bare, grown}
use Rattle.site_types.specs.declared.body.Body.{Body}
use Rattle.site_types.specs.declared.moderation.Moderation.{Moderation}
use Rattle.site_types.specs.declared.revision.Revision.{Revision}
use Rattle.tree_model.specs.Shape.{AllPages}
use Rattle.tree_model.proofs.PageLemmas.{AllPages-weaker}
use Rattle.site_model.specs.World.{DeskPair, TreePart}
use Rattle.site_model.specs.Views.{list_at, number_at, current_task, stage_of}
use Rattle.site_model.specs.Bodies.{is_after}
use Rattle.site_model.specs.Publishing.{published_body, has_expired}
use Rattle.site_model.specs.Ticks.{DuePage, each_changed, gone_live}
use Rattle.site_model.specs.Desks.{stays}
use Rattle.site_model.specs.Sound.{IsGiven, NamesSome, FitsModeration, IsBody, AreBodies, AreTasks}
use Rattle.site_model.proofs.NumberLemmas.{list_front}
use Rattle.site_model.proofs.LosingTrees.{led, first_way, way_to}
use Rattle.site_model.proofs.LosingRights.{viewed_at}
use Rattle.site_model.proofs.LosingBodies.{KeepsRights, body_changed, body_stays}

-- the number at a place is below this one, where each is
number_below : (next : ℕ) (numbers : List ℕ) (place : ℕ) → 1 ≤ next →
    AllByRecursion (IsGiven next) numbers → number_at numbers place < next
number_below next [] place some all = omega (arith, some)
number_below next (number ∷ numbers) zero some all = omega (arith, some)
number_below next (number ∷ numbers) (suc zero) some all = all.0.1
number_below next (number ∷ numbers) (suc (suc place)) some all =
    number_below next numbers (suc place) some all.1

-- each number of a list is given where those of all lists are
list_given : (next : ℕ) (lists : List (List ℕ)) (number : ℕ) →
    AllByRecursion (NamesSome next) lists → AllByRecursion (IsGiven next) (list_at lists number)
list_given next [] number all = tt
list_given next (list ∷ lists) zero all = tt
list_given next (list ∷ lists) (suc zero) all = all.0.there
list_given next (list ∷ lists) (suc (suc number)) all =
    list_given next lists (suc number) all.1

-- the part with one task more
abbrev pub task_added : TreePart → List ℕ → TreePart
task_added part groups = record part { tasks = part.tasks ++ groups ∷ [] }

-- A moderation stands where it stood when a task is defined.
stage_by_task : (part : TreePart) (groups : List ℕ) (moderation : Option Moderation) →
    AreTasks part.tasks part.workflows part.next_group part.next_task part.next_workflow →
    stage_of (task_added part groups) moderation ≡ stage_of part moderation
stage_by_task part groups None tasks = refl
stage_by_task part groups (Some moderation) tasks =
    let task = current_task part moderation in
    let below = number_below part.next_task (list_at part.workflows moderation.workflow)
    moderation.task tasks.next_task.0
    (list_given part.next_task part.workflows moderation.workflow tasks.workflow_tasks) in
    rw (list_front part.tasks (groups ∷ []) task (omega (arith, below, tasks.tasks_numbered))) refl

-- What is seen does not change when a task is defined.
pub view_by_task : (part : TreePart) (groups : List ℕ) (way : Option (List ℕ × Body)) →
    AreTasks part.tasks part.workflows part.next_group part.next_task part.next_workflow →
    viewed_at (task_added part groups) way ≡ viewed_at part way
view_by_task part groups None tasks = refl
view_by_task part groups (Some way) tasks =
    rw (stage_by_task part groups way.1.moderation tasks) refl

-- the part with one workflow more
abbrev pub workflow_added : TreePart → List ℕ → TreePart
workflow_added part tasks = record part { workflows = part.workflows ++ tasks ∷ [] }

-- what holds of each page holds of the one that a way leads to
pub way_all : (P : Body → Type 0) (page : ℕ) (f : Forest Body) → AllPages (λ id slug body. P body) f →
    IfSome (way_to page f) (λ way. P way.1)
way_all P page bare all = tt
way_all P page (grown i s slug body kids rest) all =
    choice (nat_eq i page) (way_to page kids) (way_to page rest) (way_all P page kids all.1)
    (way_all P page rest all.2)
  where
    choice : (here : Bool) (below after : Option (List ℕ × Body)) →
        IfSome below (λ way. P way.1) → IfSome after (λ way. P way.1) →
        IfSome (cond here (Some (i ∷ [], body)) (first_way (led i below) after))
        (λ way. P way.1)
    choice true below after in_kids in_rest = all.0
    choice false None after in_kids in_rest = in_rest
    choice false (Some way) after in_kids in_rest = in_kids

-- A moderation whose workflow is there stands where it stood when another workflow is defined.
stage_by_workflow : (part : TreePart) (tasks : List ℕ) (moderation : Option Moderation) →
    IfSome moderation (λ one. one.workflow ≤ length part.workflows) →
    stage_of (workflow_added part tasks) moderation ≡ stage_of part moderation
stage_by_workflow part tasks None within = refl
stage_by_workflow part tasks (Some moderation) within =
    rw (list_front part.workflows (tasks ∷ []) moderation.workflow within) refl

-- the workflow of a moderation is there
within_all : (part : TreePart) (page : ℕ) (moderation : Option Moderation) →
    part.next_workflow ≡ length part.workflows + 1 →
    IfSome moderation
    (FitsModeration part.revisions part.next_user part.next_workflow part.workflows page) →
    IfSome moderation (λ one. one.workflow ≤ length part.workflows)
within_all part page None numbered fits = tt
within_all part page (Some moderation) numbered fits = omega (arith, fits.workflow.1, numbered)

-- What is seen does not change when a workflow is defined.
pub view_by_workflow : (part : TreePart) (tasks : List ℕ) (page : ℕ) →
    AreBodies part.tree part.revisions part.next_user part.next_workflow part.workflows →
    AreTasks part.tasks part.workflows part.next_group part.next_task part.next_workflow →
    viewed_at (workflow_added part tasks) (way_to page part.tree)
    ≡ viewed_at part (way_to page part.tree)
view_by_workflow part tasks page bodies numbered =
    at_end (way_to page part.tree)
    (way_all (λ body. IfSome body.moderation (λ one. one.workflow ≤ length part.workflows)) page
    part.tree (AllPages-weaker
    (λ id slug body. IsBody part.revisions part.next_user part.next_workflow part.workflows id body)
    (λ id slug body. IfSome body.moderation (λ one. one.workflow ≤ length part.workflows))
    part.tree (λ id slug body is.
    within_all part id body.moderation numbered.workflows_numbered is.moderation) bodies.bodies))
  where
    at_end : (way : Option (List ℕ × Body)) →
        IfSome way (λ one. IfSome one.1.moderation
        (λ moderation. moderation.workflow ≤ length part.workflows)) →
        viewed_at (workflow_added part tasks) way ≡ viewed_at part way
    at_end None within = refl
    at_end (Some way) within = rw (stage_by_workflow part tasks way.1.moderation within) refl

-- one of two bodies leaves a page's owner, lock and moderation where both do
keeps_either : (body : Body) (t : Bool) (one other : Body) → KeepsRights body one →
    KeepsRights body other → KeepsRights body (cond t one other)
keeps_either body true one other first second = first
keeps_either body false one other first second = second

-- To publish leaves a page's owner, lock and moderation.
pub published_keeps : (moment : ℕ) (revision : Revision) (body : Body) →
    KeepsRights body (published_body moment revision body)
published_keeps moment revision body =
    keeps_either body (is_after moment revision.go_live) _ _
    (record { owner = refl; locked_by = refl; moderation = refl })
    (record { owner = refl; locked_by = refl; moderation = refl })

-- So does what becomes of a scheduled revision whose moment has come.
pub gone_keeps : (moment : ℕ) (due : DuePage) (body : Body) →
    KeepsRights body (gone_live moment due body)
gone_keeps moment due body =
    keeps_either body (has_expired moment due.revision) _ _
    (record { owner = refl; locked_by = refl; moderation = refl })
    (published_keeps moment due.revision body)

-- Where each change leaves that of its page, a desk stays as before.
pub changes_stay : (change : DuePage → Body → Body) (due : List DuePage) (part : TreePart)
    (pair : DeskPair) → ((one : DuePage) (body : Body) → KeepsRights body (change one body)) →
    stays (each_changed change due part) pair ≡ stays part pair
changes_stay change [] part pair kept = refl
changes_stay change (one ∷ due) part pair kept =
    changes_stay change due (body_changed one.page (change one) part) pair kept
    ∙ body_stays part one.page (change one) pair (kept one)

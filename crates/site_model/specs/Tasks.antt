-- Tasks and workflows, and which workflow a page has: the commands on them, with their own rules in
-- order, and their effects. An id that names nothing is tried before ids run out.
use Rattle.std.specs.Prelude.{ℕ, Bool, not, ◌+◌, List, [], ◌∷◌, ◌++◌, Option, Some, None}
use Rattle.std.specs.List.{list_any}
use Rattle.site_ids.specs.declared.ids.TheConstants.{LAST_TASK_ID, LAST_WORKFLOW_ID}
use Rattle.site_types.specs.declared.refusal.NameKind.TheVariants as kinds
use Rattle.site_types.specs.declared.refusal.Refusal.{Refusal}
use Rattle.site_types.specs.declared.refusal.Refusal.TheVariants.{NothingNew, NoName}
use Rattle.site_types.specs.declared.reply.Reply.TheVariants.{Done, Id}
use Rattle.site_model.specs.World.{TreePart, Deed, time_at}
use Rattle.site_model.specs.Rules.{refused_if, first_of, ids_full, is_given}
use Rattle.site_model.specs.Views.{body_of}
use Rattle.site_model.specs.Create.{plain_deed}
use Rattle.site_model.specs.Bodies.{body_deed, has_body, same_number}

-- one of the ids names nothing, where this is the next id
abbrev pub one_missing : ℕ → List ℕ → Bool
one_missing next ids = list_any (λ id. not (is_given next id)) ids

-- the rules of the definition of a task
abbrev pub task_rules : TreePart → List ℕ → Option Refusal
task_rules part groups =
    first_of
    (refused_if (one_missing part.next_group groups) (NoName kinds.Group)
    ∷ ids_full LAST_TASK_ID part.next_task
    ∷ [])

-- the definition of a task
abbrev pub define_task : TreePart → ℕ → List ℕ → Deed
define_task part now groups =
    plain_deed
    (record part {
      time = time_at part now;
      next_task = part.next_task + 1;
      tasks = part.tasks ++ groups ∷ [];
    })
    (Id part.next_task)

-- the rules of the definition of a workflow
abbrev pub workflow_rules : TreePart → List ℕ → Option Refusal
workflow_rules part tasks =
    first_of
    (refused_if (one_missing part.next_task tasks) (NoName kinds.Task)
    ∷ ids_full LAST_WORKFLOW_ID part.next_workflow
    ∷ [])

-- the definition of a workflow
abbrev pub define_workflow : TreePart → ℕ → List ℕ → Deed
define_workflow part now tasks =
    plain_deed
    (record part {
      time = time_at part now;
      next_workflow = part.next_workflow + 1;
      workflows = part.workflows ++ tasks ∷ [];
    })
    (Id part.next_workflow)

-- the id names no workflow; no workflow at all is one that may be assigned
abbrev pub no_workflow : TreePart → Option ℕ → Option Refusal
no_workflow part None = None
no_workflow part (Some id) =
    refused_if (not (is_given part.next_workflow id)) (NoName kinds.Workflow)

-- the rules of an assignment
abbrev pub assign_rules : TreePart → ℕ → Option ℕ → Option Refusal
assign_rules part page workflow =
    first_of
    (refused_if (has_body (λ body. same_number body.workflow workflow) (body_of part.tree page))
    NothingNew
    ∷ no_workflow part workflow
    ∷ [])

-- an assignment
abbrev pub assign : TreePart → ℕ → ℕ → Option ℕ → Deed
assign part now page workflow =
    body_deed part now page (λ body. record body { workflow = workflow }) Done

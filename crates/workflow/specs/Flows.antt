-- What tasks and workflows are seen as, what always holds of them, how they stand for a world's,
-- and what resuming a moderation comes to.
use Rattle.std.specs.Prelude.{◌≡◌, ℕ, ◌+◌, ◌≤◌, List, length, Option, Some, None, if◌then◌else◌}
use Rattle.std.specs.List.{AllByRecursion}
use Rattle.site_ids.specs.declared.ids.TheConstants.{LAST_GROUP_ID, LAST_TASK_ID, LAST_WORKFLOW_ID}
use Rattle.site_types.specs.declared.moderation.Moderation.{Moderation}
use Rattle.site_model.specs.World.{TreePart}
use Rattle.site_model.specs.Views.{list_at}
use Rattle.site_model.specs.Rules.{is_given}
use Rattle.site_model.specs.Sound.{IsGiven, NamesSome, NumbersRise}
use Rattle.site_model.specs.Moderations.{WasSubmitted, moderated}
use Rattle.site_model.specs.Moderating.{starts_anew}

-- The groups of each task from 1, the tasks of each workflow from 1, and how many more tasks and
-- workflows can be defined without taking memory.
pub record FlowLists : Type 0 where
  pub tasks : List (List ℕ)
  pub workflows : List (List ℕ)
  pub spare : ℕ

-- A task has 1 to 16 distinct groups, rising.
pub record IsTask (groups : List ℕ) : Type 0 where
  pub named : NamesSome (LAST_GROUP_ID + 1) groups
  pub rise : NumbersRise 0 groups

-- a workflow has 1 to 16 tasks of so many
abbrev pub IsWorkflow : ℕ → List ℕ → Type 0
IsWorkflow count tasks = NamesSome (count + 1) tasks

-- Tasks and workflows as they are kept: there are ids for all, and a workflow's tasks are there.
pub record AreFlows (tasks workflows : List (List ℕ)) : Type 0 where
  pub task_count : length tasks ≤ LAST_TASK_ID
  pub workflow_count : length workflows ≤ LAST_WORKFLOW_ID
  pub task_groups : AllByRecursion IsTask tasks
  pub workflow_tasks : AllByRecursion (IsWorkflow (length tasks)) workflows

-- A moderation runs through a workflow that is there, and counts a task of it.
pub record IsCounted (workflows : List (List ℕ)) (moderation : Moderation) : Type 0 where
  pub workflow : IsGiven (length workflows + 1) moderation.workflow
  pub task_counted : 1 ≤ moderation.task
  pub task_within : moderation.task ≤ length (list_at workflows moderation.workflow)

-- Tasks and workflows are those of a world. In a sound world the next ids are one above their numbers.
pub record FlowsStandFor (kept : FlowLists) (part : TreePart) : Type 0 where
  pub tasks : kept.tasks ≡ part.tasks
  pub workflows : kept.workflows ≡ part.workflows

-- all but the room is as it was
pub record SameFlows (before after : FlowLists) : Type 0 where
  pub tasks : after.tasks ≡ before.tasks
  pub workflows : after.workflows ≡ before.workflows

-- the list with this number, counted from 1, where there is one
abbrev pub list_with : List (List ℕ) → ℕ → Option (List ℕ)
list_with lists number =
    if is_given (length lists + 1) number then Some (list_at lists number) else None

-- what a moderation is when it goes on with this revision, submitted by this user; none where it
-- would start anew
abbrev pub gone_on : List (List ℕ) → ℕ → ℕ → Moderation → Option Moderation
gone_on workflows revision by moderation =
    if starts_anew moderation.status
    then None
    else moderated workflows (WasSubmitted moderation.workflow revision by) (Some moderation)

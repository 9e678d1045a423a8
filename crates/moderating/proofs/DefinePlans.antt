-- Plans of tasks and workflows that come: what is refused, and what a plan is that is not.
use Rattle.std.proofs.Common.{◌≡◌, ◌<◌, ◌≤◌, ◌+◌, ℕ, Bool, true, false, not, List, [], length, Option, Result, Ok, Err, max, refl, sym, ap, subst, ◌∙◌, arith}
use Rattle.site_ids.specs.declared.ids.TheConstants.{LAST_TASK_ID, LAST_WORKFLOW_ID}
use Rattle.site_types.specs.Content.{ContentValue}
use Rattle.site_types.specs.declared.command.Command.{Command}
use Rattle.site_types.specs.declared.command.Command.TheVariants as commands
use Rattle.site_types.specs.declared.refusal.NameKind.TheVariants as kinds
use Rattle.site_types.specs.declared.refusal.Refusal.TheVariants.{IdsFull, NoName}
use Rattle.site_types.specs.declared.reply.Reply.{Reply}
use Rattle.site_types.specs.declared.reply.Reply.TheVariants as replies
use Rattle.site_model.specs.World as worlds
use Rattle.site_model.specs.Losing.{suspects_of, shuts}
use Rattle.site_model.specs.Sound.{NamesSome}
use Rattle.site_model.specs.Step.{rules, step_by}
use Rattle.site_model.specs.Step as steps
use Rattle.site_model.specs.Tasks.{one_missing, task_rules, define_task, workflow_rules, define_workflow}
use Rattle.site_model.proofs.LosingEnds.{ends_none}
use Rattle.site_model.proofs.TaskSound.{names_some}
use Rattle.workflow.proofs.CallerLemmas.{is_task}
use Rattle.flat_model.specs.Fits.{FlowsFit}
use Rattle.flat_model.specs.Flat.{people_of, lists_of}
use Rattle.flat_model.specs.Lists.{PartLists}
use Rattle.flat_model.specs.Made.{tasks_made, workflows_made}
use Rattle.flat_model.specs.Single.{flow_change}
use Rattle.flat_model.specs.declared.change.FlowChange.{FlowChange}
use Rattle.flat_model.specs.declared.change.FlowChange.TheVariants as changes
use Rattle.flat_model.proofs.ListLemmas.{lists_are, quiet_revisions, quiet_people}
use Rattle.site_part.specs.Plans.{Prepares, HasPlan, flows_needed, left_by, pairs_left}
use Rattle.site_part.specs.Standing.{IsReady, IsSame}
use Rattle.site_part.specs.declared.fault.Fault.{Fault}
use Rattle.site_part.specs.declared.part.TreePart.{TreePart}
use Rattle.site_part.specs.declared.plan.Plan.{Plan}
use Rattle.site_part.proofs.StandingLemmas.{same_ready}
use Rattle.site_part.proofs.StepLemmas.{own_refuses}
use Rattle.moderating.specs.Asked.{IsAsked}
use Rattle.moderating.specs.Moderated.{ReadiesFlow}
use Rattle.moderating.specs.Plans.{ending_plan}
use Rattle.moderating.proofs.Counts.{count_full, count_left}
use Rattle.moderating.proofs.Planned.{planned}
use Rattle.moderating.proofs.Steps.{part_left, ending, none_end, ends_step}

-- the lists of a part with one task or workflow more
abbrev with_flow : worlds.TreePart → ℕ → FlowChange → PartLists
with_flow part now flow =
    record (lists_of part) {
      tasks = tasks_made flow part.tasks;
      workflows = workflows_made flow part.workflows;
      time = worlds.time_at part now;
    }

-- a plan of a command that no rule refuses, where memory did not run out
flow_planned : (command : Command) (before after : TreePart) (part left : worlds.TreePart)
    (desk : Option ContentValue) (now caller : ℕ) (reply : Reply) (flow : FlowChange) →
    IsReady before part → IsSame before after →
    step_by part desk now caller command
    ≡ Ok (part_left left part.desk_pairs [], ending reply []) →
    FlowsFit flow (lists_of part) → lists_of left ≡ with_flow part now flow →
    flows_needed flow ≤ 1 → (told : Reply) → told ≡ reply → (result : Result Plan Fault) →
    ReadiesFlow before after now told flow result →
    Prepares part desk now caller command after result
flow_planned command before after part left desk now caller reply flow ready same step fits rest few
    told told_is (Ok plan) is =
    let time = max before.time now in
    let change = flow_change flow time before.next_page before.next_revision in
    let stands = ready.stands in
    let room = is.room in
    let lists : PartLists = record (with_flow part now flow) {
      desk_pairs = pairs_left [] part.desk_pairs;
    } in
    let leads : left_by (ending_plan reply [] change) (lists_of part)
    ≡ lists_of (part_left left part.desk_pairs []) =
    lists_are (left_by (ending_plan reply [] change) (lists_of part)) lists refl
    (quiet_revisions part.revisions) (quiet_people (people_of part)) refl refl refl
    (ap (λ t. max t now) stands.time) stands.next_page stands.next_revision
    ∙ ap (λ (l : PartLists).
    record l { desk_pairs = pairs_left [] part.desk_pairs }) (sym rest) in
    let has = planned command after part left desk now caller reply [] change
    (same_ready before after part same ready) step (record {
      tree = tt;
      bodies = tt;
      gone = tt;
      revisions = tt;
      people = tt;
      flows = fits;
    }) leads (omega arith) (omega arith) (omega arith) (omega (arith, room, few)) in
    let plan_is : plan ≡ ending_plan reply [] change =
    is.plan_is ∙ ap (λ (r : Reply). ending_plan r [] change) told_is in
    subst (λ (p : Plan). HasPlan after part desk now caller command p) (sym plan_is) has
flow_planned command before after part left desk now caller reply flow ready same step fits rest few
    told told_is (Err fault) is =
    subst (λ (f : Fault). Prepares part desk now caller command after (Err f)) (sym is) tt

module _ (kept : TreePart) (part : worlds.TreePart) (desk : Option ContentValue)
    (now caller : ℕ) where
  -- one task more
  module _ (groups : List ℕ) (asked : IsAsked kept part desk caller (commands.DefineTask groups))
    where
      -- the command's own rules, and what it does
      task_own : rules part desk now caller (commands.DefineTask groups) ≡ task_rules part groups
      unfolding rules
      task_own = refl

      task_done : steps.effect part desk now caller (commands.DefineTask groups)
          ≡ define_task part now groups
      unfolding steps.effect
      task_done = refl

      -- it ends no desk
      task_ends : (left : worlds.TreePart) (told : worlds.Effect) →
          step_by part desk now caller (commands.DefineTask groups) ≡ Ok (left, told) →
          told.ended ≡ []
      unfolding suspects_of shuts
      task_ends left told is =
          ends_none part left told desk now caller (commands.DefineTask groups)
          asked.given.ready.reached.sound refl refl is

      -- whether a group is missing
      group_missing : (t : Bool) → one_missing (kept.grants.groups + 1) groups ≡ t →
          one_missing part.next_group groups ≡ t
      group_missing t is =
          ap (λ (next : ℕ). one_missing next groups) (sym asked.given.ready.stands.lists.groups) ∙ is

      -- the number of tasks
      tasks_are : length kept.flows.tasks + 1 ≡ part.next_task
      tasks_are =
          ap (λ (tasks : List (List ℕ)). length tasks + 1) asked.given.ready.stands.flows.tasks
          ∙ sym asked.given.ready.reached.sound.tasks.tasks_numbered

      -- a group that is not there
      pub task_unnamed : one_missing (kept.grants.groups + 1) groups ≡ true →
          step_by part desk now caller (commands.DefineTask groups) ≡ Err (NoName kinds.Group)
      task_unnamed is =
          own_refuses part desk now caller (commands.DefineTask groups) (NoName kinds.Group)
          asked.front (task_own ∙ rw (group_missing true is) refl)

      -- no number is left
      pub task_full : one_missing (kept.grants.groups + 1) groups ≡ false →
          LAST_TASK_ID ≤ length kept.flows.tasks →
          step_by part desk now caller (commands.DefineTask groups) ≡ Err IdsFull
      task_full there full =
          own_refuses part desk now caller (commands.DefineTask groups) IdsFull asked.front
          (task_own ∙ rw (
            group_missing false there,
            count_full LAST_TASK_ID (length kept.flows.tasks) part.next_task tasks_are full,
          ) refl)

      -- its plan
      pub task_planned : (after : TreePart) → IsSame kept after →
          one_missing (kept.grants.groups + 1) groups ≡ false →
          length kept.flows.tasks < LAST_TASK_ID → (number : ℕ) →
          number ≡ length kept.flows.tasks + 1 → (ids : List ℕ) → ids ≡ groups →
          (result : Result Plan Fault) →
          ReadiesFlow kept after now (replies.Id number) (changes.Task ids) result →
          Prepares part desk now caller (commands.DefineTask groups) after result
      task_planned after same there left number number_is ids ids_are result is =
          let ready = asked.given.ready in
          let fits = asked.given.fits in
          let missing = group_missing false there in
          let fewer : length part.tasks < LAST_TASK_ID =
          subst (λ (tasks : List (List ℕ)). length tasks < LAST_TASK_ID) ready.stands.flows.tasks
          left in
          flow_planned (commands.DefineTask groups) kept after part (define_task part now groups).part
          desk now caller (replies.Id part.next_task) (changes.Task groups) ready same
          (ends_step part desk now caller (commands.DefineTask groups)
          (define_task part now groups).part (replies.Id part.next_task) false asked.front
          (task_own ∙ rw (
            missing,
            count_left LAST_TASK_ID (length kept.flows.tasks) part.next_task tasks_are left,
          ) refl) task_done refl [] task_ends (none_end part.desk_pairs)) (
            fewer,
            is_task part.next_group groups ready.reached.sound.people.next_group.1
                (names_some part.next_group groups fits.0 missing) fits.1,
          ) refl (omega arith)
          (replies.Id number) (ap replies.Id (number_is ∙ tasks_are)) result
          (subst (λ (list : List ℕ).
          ReadiesFlow kept after now (replies.Id number) (changes.Task list) result) ids_are is)

  -- one workflow more
  module _ (tasks : List ℕ)
      (asked : IsAsked kept part desk caller (commands.DefineWorkflow tasks)) where
    -- the command's own rules, and what it does
    workflow_own : rules part desk now caller (commands.DefineWorkflow tasks)
        ≡ workflow_rules part tasks
    unfolding rules
    workflow_own = refl

    workflow_done : steps.effect part desk now caller (commands.DefineWorkflow tasks)
        ≡ define_workflow part now tasks
    unfolding steps.effect
    workflow_done = refl

    -- it ends no desk
    workflow_ends : (left : worlds.TreePart) (told : worlds.Effect) →
        step_by part desk now caller (commands.DefineWorkflow tasks) ≡ Ok (left, told) →
        told.ended ≡ []
    unfolding suspects_of shuts
    workflow_ends left told is =
        ends_none part left told desk now caller (commands.DefineWorkflow tasks)
        asked.given.ready.reached.sound refl refl is

    -- the number of tasks
    task_count : length kept.flows.tasks + 1 ≡ part.next_task
    task_count =
        ap (λ (all : List (List ℕ)). length all + 1) asked.given.ready.stands.flows.tasks
        ∙ sym asked.given.ready.reached.sound.tasks.tasks_numbered

    -- whether a task is missing
    task_missing : (t : Bool) → one_missing (length kept.flows.tasks + 1) tasks ≡ t →
        one_missing part.next_task tasks ≡ t
    task_missing t is = ap (λ (next : ℕ). one_missing next tasks) (sym task_count) ∙ is

    -- the number of workflows
    workflows_are : length kept.flows.workflows + 1 ≡ part.next_workflow
    workflows_are =
        ap (λ (all : List (List ℕ)). length all + 1) asked.given.ready.stands.flows.workflows
        ∙ sym asked.given.ready.reached.sound.tasks.workflows_numbered

    -- a task that is not there
    pub workflow_unnamed : one_missing (length kept.flows.tasks + 1) tasks ≡ true →
        step_by part desk now caller (commands.DefineWorkflow tasks) ≡ Err (NoName kinds.Task)
    workflow_unnamed is =
        own_refuses part desk now caller (commands.DefineWorkflow tasks) (NoName kinds.Task)
        asked.front (workflow_own ∙ rw (task_missing true is) refl)

    -- no number is left
    pub workflow_full : one_missing (length kept.flows.tasks + 1) tasks ≡ false →
        LAST_WORKFLOW_ID ≤ length kept.flows.workflows →
        step_by part desk now caller (commands.DefineWorkflow tasks) ≡ Err IdsFull
    workflow_full there full =
        own_refuses part desk now caller (commands.DefineWorkflow tasks) IdsFull asked.front
        (workflow_own ∙ rw (
          task_missing false there,
          count_full LAST_WORKFLOW_ID (length kept.flows.workflows) part.next_workflow workflows_are
              full,
        ) refl)

    -- its plan
    pub workflow_planned : (after : TreePart) → IsSame kept after →
        one_missing (length kept.flows.tasks + 1) tasks ≡ false →
        length kept.flows.workflows < LAST_WORKFLOW_ID → (number : ℕ) →
        number ≡ length kept.flows.workflows + 1 → (ids : List ℕ) → ids ≡ tasks →
        (result : Result Plan Fault) →
        ReadiesFlow kept after now (replies.Id number) (changes.Workflow ids) result →
        Prepares part desk now caller (commands.DefineWorkflow tasks) after result
    workflow_planned after same there left number number_is ids ids_are result is =
        let ready = asked.given.ready in
        let missing = task_missing false there in
        let fewer : length part.workflows < LAST_WORKFLOW_ID =
        subst (λ (all : List (List ℕ)). length all < LAST_WORKFLOW_ID) ready.stands.flows.workflows
        left in
        let named : NamesSome (length part.tasks + 1) tasks =
        subst (λ (next : ℕ). NamesSome next tasks) ready.reached.sound.tasks.tasks_numbered
        (names_some part.next_task tasks asked.given.fits missing) in
        flow_planned (commands.DefineWorkflow tasks) kept after part
        (define_workflow part now tasks).part desk now caller (replies.Id part.next_workflow)
        (changes.Workflow tasks) ready same
        (ends_step part desk now caller (commands.DefineWorkflow tasks)
        (define_workflow part now tasks).part (replies.Id part.next_workflow) false asked.front
        (workflow_own ∙ rw (
          missing,
          count_left LAST_WORKFLOW_ID (length kept.flows.workflows) part.next_workflow workflows_are
              left,
        ) refl) workflow_done refl [] workflow_ends (none_end part.desk_pairs)) (fewer, named) refl
        (omega arith) (replies.Id number) (ap replies.Id (number_is ∙ workflows_are)) result
        (subst (λ (list : List ℕ).
        ReadiesFlow kept after now (replies.Id number) (changes.Workflow list) result) ids_are is)

-- The definition of a task or of a workflow keeps a world sound, and so does an assignment.
use Rattle.std.proofs.Common.{◌≡◌, ◌+◌, ◌≤◌, ℕ, false, not, List, [], ◌∷◌, ◌++◌, length, Option, Some, None, refl, ap, arith}
use Rattle.std.specs.Prelude.{IfSome}
use Rattle.site_ids.specs.declared.ids.TheConstants.{LAST_TASK_ID, LAST_WORKFLOW_ID}
use Rattle.site_ids.specs.Moment.{IsMoment}
use Rattle.site_types.specs.declared.body.Body.{Body}
use Rattle.site_types.specs.declared.moderation.Moderation.{Moderation}
use Rattle.site_types.specs.declared.refusal.NameKind.TheVariants as kinds
use Rattle.site_types.specs.declared.refusal.Refusal.TheVariants.{IdsFull, NothingNew, NoName}
use Rattle.site_types.specs.declared.revision.Revision.{Revision}
use Rattle.tree_model.proofs.PageLemmas.{AllPages-weaker, all_weaker}
use Rattle.site_model.specs.World.{TreePart}
use Rattle.site_model.specs.Views.{body_of}
use Rattle.site_model.specs.Rules.{refused_if, is_given, ids_full}
use Rattle.site_model.specs.Bodies.{has_body, same_number}
use Rattle.site_model.specs.Tasks.{one_missing, task_rules, define_task, workflow_rules, define_workflow, no_workflow, assign_rules, assign}
use Rattle.site_model.specs.Sound.{IsGiven, FitsModeration, IsBody, IsAliasBody, NumbersRise, NamesSome}
use Rattle.site_model.specs.Laws.{FitsList}
use Rattle.site_model.proofs.BodySound.{IsKept, body_keeps_sound}
use Rattle.site_model.proofs.ClearLemmas.{first_clear, test_clear, not_false, limit_clear}
use Rattle.site_model.proofs.Groups.{AreGroups}
use Rattle.site_model.proofs.NumberLemmas.{list_front}
use Rattle.site_model.proofs.PeopleSound.{all_appended, length_appended, next_one, given_by, given_more, names_more, none_passes}

-- a list of a command names some things, where none of its ids is missing
pub names_some : (next : ℕ) (ids : List ℕ) → FitsList ids → one_missing next ids ≡ false →
    NamesSome next ids
names_some next ids fits none = record {
  not_empty = fits.not_empty;
  fits = fits.fits;
  there = none_passes (IsGiven next) (λ id. not (is_given next id)) ids
      (λ id is. given_by next id (not_false (is_given next id) is)) none;
}

-- the definition of a task that no rule refuses keeps a world sound
pub task_keeps_sound : (part : TreePart) (now : ℕ) (groups : List ℕ) → AreGroups part →
    IsMoment now → FitsList groups → NumbersRise 0 groups → task_rules part groups ≡ None →
    AreGroups (define_task part now groups).part
task_keeps_sound part now groups sound moment fits rise none =
    let there = first_clear
    (refused_if (one_missing part.next_group groups) (NoName kinds.Group)) _ none in
    let left = first_clear (ids_full LAST_TASK_ID part.next_task) [] there.1 in
    let room = limit_clear LAST_TASK_ID part.next_task (test_clear _ IdsFull left.0) in
    let named = names_some part.next_group groups fits
    (test_clear _ (NoName kinds.Group) there.0) in
    let more = length_appended part.tasks groups in
    record {
      time = omega (arith, sound.time, moment);
      pages = sound.pages;
      revisions = sound.revisions;
      bodies = sound.bodies;
      people = sound.people;
      tasks = record {
        next_task = next_one LAST_TASK_ID part.next_task room;
        next_workflow = sound.tasks.next_workflow;
        tasks_numbered = omega (arith, more, sound.tasks.tasks_numbered);
        workflows_numbered = sound.tasks.workflows_numbered;
        task_groups = all_appended (NamesSome part.next_group) part.tasks groups
            sound.tasks.task_groups named;
        task_groups_rise = all_appended (NumbersRise 0) part.tasks groups
            sound.tasks.task_groups_rise rise;
        workflow_tasks = all_weaker (NamesSome part.next_task) (NamesSome (part.next_task + 1))
            part.workflows (names_more part.next_task) sound.tasks.workflow_tasks;
      };
      grants = sound.grants;
    }

-- a moderation fits where one workflow more is there
moderation_fits_more : (part : TreePart) (tasks : List ℕ) (page : ℕ)
    (moderation : Option Moderation) → part.next_workflow ≡ length part.workflows + 1 →
    IfSome moderation
    (FitsModeration part.revisions part.next_user part.next_workflow part.workflows page) →
    IfSome moderation
    (FitsModeration part.revisions part.next_user (part.next_workflow + 1)
    (part.workflows ++ tasks ∷ []) page)
moderation_fits_more part tasks page None numbered is = tt
moderation_fits_more part tasks page (Some moderation) numbered is =
    let within : moderation.workflow ≤ length part.workflows =
    omega (arith, is.workflow.1, numbered) in
    record {
      workflow = (is.workflow.0, omega (arith, is.workflow.1));
      task_counted = is.task_counted;
      task_within = rw (list_front part.workflows (tasks ∷ []) moderation.workflow within)
          is.task_within;
      revision = is.revision;
      by = is.by;
    }

-- what is kept of a page, where one workflow more is there
body_fits_more : (part : TreePart) (tasks : List ℕ) (id : ℕ) (body : Body) →
    part.next_workflow ≡ length part.workflows + 1 → IsKept part id body →
    IsBody part.revisions part.next_user (part.next_workflow + 1) (part.workflows ++ tasks ∷ []) id
    body
body_fits_more part tasks id body numbered is = record {
  root = is.root;
  regular = is.regular;
  alias = is.alias;
  owner = is.owner;
  lock = is.lock;
  assigned = given_more part.next_workflow body.workflow is.assigned;
  moderation = moderation_fits_more part tasks id body.moderation numbered is.moderation;
  first_published = is.first_published;
  last_published = is.last_published;
}

-- the definition of a workflow that no rule refuses keeps a world sound
pub workflow_keeps_sound : (part : TreePart) (now : ℕ) (tasks : List ℕ) → AreGroups part →
    IsMoment now → FitsList tasks → workflow_rules part tasks ≡ None →
    AreGroups (define_workflow part now tasks).part
workflow_keeps_sound part now tasks sound moment fits none =
    let there = first_clear
    (refused_if (one_missing part.next_task tasks) (NoName kinds.Task)) _ none in
    let left = first_clear (ids_full LAST_WORKFLOW_ID part.next_workflow) [] there.1 in
    let room = limit_clear LAST_WORKFLOW_ID part.next_workflow (test_clear _ IdsFull left.0) in
    let named = names_some part.next_task tasks fits (test_clear _ (NoName kinds.Task) there.0) in
    let more = length_appended part.workflows tasks in
    record {
      time = omega (arith, sound.time, moment);
      pages = sound.pages;
      revisions = sound.revisions;
      bodies = record {
        bodies = AllPages-weaker _ _ part.tree
            (λ id slug body is.
            body_fits_more part tasks id body sound.tasks.workflows_numbered is)
            sound.bodies.bodies;
        sources = sound.bodies.sources;
      };
      people = sound.people;
      tasks = record {
        next_task = sound.tasks.next_task;
        next_workflow = next_one LAST_WORKFLOW_ID part.next_workflow room;
        tasks_numbered = sound.tasks.tasks_numbered;
        workflows_numbered = omega (arith, more, sound.tasks.workflows_numbered);
        task_groups = sound.tasks.task_groups;
        task_groups_rise = sound.tasks.task_groups_rise;
        workflow_tasks = all_appended (NamesSome part.next_task) part.workflows tasks
            sound.tasks.workflow_tasks named;
      };
      grants = sound.grants;
    }

-- a workflow that may be assigned is there
workflow_given : (part : TreePart) (workflow : Option ℕ) → no_workflow part workflow ≡ None →
    IfSome workflow (IsGiven part.next_workflow)
workflow_given part None none = tt
workflow_given part (Some id) none =
    given_by part.next_workflow id
    (not_false (is_given part.next_workflow id) (test_clear _ (NoName kinds.Workflow) none))

-- an alias with another workflow is one as before
assigned_alias : (revisions : List Revision) (page : ℕ) (workflow : Option ℕ) (body : Body)
    (source : Option ℕ) → IfSome source (λ one. IsAliasBody revisions page body) →
    IfSome source (λ one. IsAliasBody revisions page (record body { workflow = workflow }))
assigned_alias revisions page workflow body None is = tt
assigned_alias revisions page workflow body (Some source) is = record {
  no_revision = is.no_revision;
  live = is.live;
  expired = is.expired;
  shown = is.shown;
  latest = is.latest;
  scheduled = is.scheduled;
  first_published = is.first_published;
  last_published = is.last_published;
  locked_by = is.locked_by;
  moderation = is.moderation;
}

-- a page, the root too, with another workflow
assigned_body : (part : TreePart) (page : ℕ) (workflow : Option ℕ) (body : Body) →
    IfSome workflow (IsGiven part.next_workflow) → IsKept part page body →
    IsKept part page (record body { workflow = workflow })
assigned_body part page workflow body given kept = record {
  root = λ is. ap (λ (own : Body). record own { workflow = workflow }) (kept.root is);
  regular = λ other regular.
      let own = kept.regular other regular in
      record {
        shown = own.shown;
        latest = own.latest;
        last = own.last;
        scheduled = own.scheduled;
      };
  alias = assigned_alias part.revisions page workflow body body.source kept.alias;
  owner = kept.owner;
  lock = kept.lock;
  assigned = given;
  moderation = kept.moderation;
  first_published = kept.first_published;
  last_published = kept.last_published;
}

-- an assignment that no rule refuses keeps a world sound
pub assign_keeps_sound : (part : TreePart) (now page : ℕ) (workflow : Option ℕ) →
    AreGroups part → IsMoment now → assign_rules part page workflow ≡ None →
    AreGroups (assign part now page workflow).part
assign_keeps_sound part now page workflow sound moment none =
    let new = first_clear
    (refused_if (has_body (λ body. same_number body.workflow workflow) (body_of part.tree page))
    NothingNew) _ none in
    let there = first_clear (no_workflow part workflow) [] new.1 in
    let given = workflow_given part workflow there.0 in
    body_keeps_sound part now page (λ body. record body { workflow = workflow }) sound moment
    (record {
      source = λ body. refl;
      kept = λ body is kept. assigned_body part page workflow body given kept;
    })

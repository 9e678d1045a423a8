-- To submit a page begins a moderation that fits it, or goes on with one.
use Rattle.std.proofs.Common.{◌≡◌, ◌<◌, ℕ, Bool, true, false, cond, ◌&&◌, nat_eq, List, [], ◌∷◌, Option, None, Some, arith}
use Rattle.std.specs.Prelude.{IfSome}
use Rattle.std.specs.List.{AllByRecursion}
use Rattle.std.specs.Option.{option_or, is_none, unwrap_or}
use Rattle.page_tree.specs.Tree.{Forest, bare, grown, has_page}
use Rattle.page_tree.specs.Walk.{Visit, walk, first_walk, extended, kid_count}
use Rattle.site_types.specs.declared.body.Body.{Body}
use Rattle.site_types.specs.declared.moderation.Moderation.{Moderation}
use Rattle.site_types.specs.declared.moderation.ModerationStatus.{ModerationStatus}
use Rattle.site_types.specs.declared.moderation.ModerationStatus.TheVariants.{InProgress, Approved, NeedsChanges, Cancelled}
use Rattle.site_types.specs.declared.refusal.Refusal.TheVariants.{NoWorkflow}
use Rattle.tree_model.specs.Shape.{AllPages}
use Rattle.tree_model.proofs.PageLemmas.{AllPages-weaker}
use Rattle.site_model.specs.World.{TreePart}
use Rattle.site_model.specs.Moderations.{begun, resumed, moved_on, moderated}
use Rattle.site_model.specs.Moderating.{last_workflow, nearest_workflow, moderation_of, starts_anew, would_start, submit_rules, latest_id, submission, after_event}
use Rattle.site_model.specs.Sound.{IsGiven, is_own}
use Rattle.site_model.proofs.BodySound.{IsKept}
use Rattle.site_model.proofs.ClearLemmas.{test_clear}
use Rattle.site_model.proofs.Groups.{AreGroups}
use Rattle.site_model.proofs.ModerationSound.{FitsPage, task_count, moderation_fits}
use Rattle.site_model.proofs.NumberLemmas.{list_some}
use Rattle.site_model.proofs.PublishSound.{kept_body}
use Rattle.site_model.proofs.RegularLemmas.{HasNoSource, kept_there}

-- what holds of each page holds of those on a walk
walk_all : (P : Body → Type 0) (page : ℕ) (f : Forest Body) →
    AllPages (λ id slug body. P body) f →
    AllByRecursion (λ (visit : Visit Body). P visit.body) (walk page f)
walk_all P page bare all = tt
walk_all P page (grown i s slug body kids rest) all =
    choice (nat_eq i page) (walk page kids) (walk page rest) (walk_all P page kids all.1)
    (walk_all P page rest all.2)
  where
    here : Visit Body
    here = record { id = i; step = s; slug = slug; body = body; numchild = kid_count kids }

    Each : List (Visit Body) → Type 0
    Each visits = AllByRecursion (λ (visit : Visit Body). P visit.body) visits

    choice : (t : Bool) (below after : List (Visit Body)) → Each below → Each after →
        Each (cond t (here ∷ []) (first_walk (extended here below) after))
    choice true below after in_kids in_rest = (all.0, tt)
    choice false [] after in_kids in_rest = in_rest
    choice false (visit ∷ visits) after in_kids in_rest = (all.0, in_kids)

-- the last workflow of a walk is there, where each on it is
last_given : (next : ℕ) (visits : List (Visit Body)) →
    AllByRecursion (λ (visit : Visit Body). IfSome visit.body.workflow (IsGiven next)) visits →
    IfSome (last_workflow visits) (IsGiven next)
last_given next [] all = tt
last_given next (visit ∷ visits) all =
    choice (last_workflow visits) (last_given next visits all.1)
  where
    choice : (found : Option ℕ) → IfSome found (IsGiven next) →
        IfSome (option_or found visit.body.workflow) (IsGiven next)
    choice None is = all.0
    choice (Some workflow) is = is

-- the nearest workflow of a page is there
pub nearest_given : (part : TreePart) (page : ℕ) → AreGroups part →
    IfSome (nearest_workflow part page) (IsGiven part.next_workflow)
nearest_given part page sound =
    last_given part.next_workflow (walk page part.tree)
    (walk_all (λ body. IfSome body.workflow (IsGiven part.next_workflow)) page part.tree
    (AllPages-weaker (λ id slug body. IsKept part id body)
    (λ id slug body. IfSome body.workflow (IsGiven part.next_workflow)) part.tree
    (λ id slug body kept. kept.assigned) sound.bodies.bodies))

-- the latest revision of a regular page is its own
latest_own : (part : TreePart) (page : ℕ) → AreGroups part → (page ≡ 1 → ⊥) →
    has_page page part.tree ≡ true → HasNoSource part.tree page →
    is_own part.revisions page (Some (latest_id part page)) ≡ true
latest_own part page sound below there regular =
    let kept = kept_there page part.tree there in
    let own = (kept_body part page kept.0 sound kept.1).regular below (regular kept.0 kept.1) in
    rw (kept.1) (by_id kept.0.latest own.latest)
  where
    by_id : (latest : Option ℕ) → is_own part.revisions page latest ≡ true →
        is_own part.revisions page (Some (unwrap_or latest 0)) ≡ true
    by_id None is = absurd (cc)
    by_id (Some id) is = is

-- What submitting a page is about: its latest revision is its own, and its caller is a user.
record MaySubmit (part : TreePart) (caller page : ℕ) : Type 0 where
  own : is_own part.revisions page (Some (latest_id part page)) ≡ true
  user : caller < part.next_user

-- a moderation that begins in a workflow that is there fits
begun_fits : (part : TreePart) (caller page workflow : ℕ) → AreGroups part →
    MaySubmit part caller page → IsGiven part.next_workflow workflow →
    FitsPage part page (begun workflow (latest_id part page) caller)
begun_fits part caller page workflow sound may given = record {
  workflow = given;
  task_counted = omega arith;
  task_within = list_some part.next_task part.workflows workflow sound.tasks.workflow_tasks given.0
      (omega (arith, given.1, sound.tasks.workflows_numbered));
  revision = may.own;
  by = may.user;
}

-- so does one that goes on
resumed_fits : (part : TreePart) (caller page : ℕ) (moderation : Moderation) →
    MaySubmit part caller page → FitsPage part page moderation →
    FitsPage part page (resumed (latest_id part page) caller moderation)
resumed_fits part caller page moderation may is = record {
  workflow = is.workflow;
  task_counted = is.task_counted;
  task_within = is.task_within;
  revision = may.own;
  by = may.user;
}

-- the nearest workflow is one that is there, where there is one
workflow_there : (next : ℕ) (nearest : Option ℕ) → IfSome nearest (IsGiven next) →
    is_none nearest ≡ false → IsGiven next (unwrap_or nearest 0)
workflow_there next None given some = absurd (cc)
workflow_there next (Some workflow) given some = given

-- what submitting a page leaves of its moderation fits it, by the moderation before
submitted_fits : (part : TreePart) (caller page : ℕ) (moderation : Option Moderation) →
    AreGroups part → MaySubmit part caller page → IfSome moderation (FitsPage part page) →
    (would_start moderation && is_none (nearest_workflow part page)) ≡ false →
    IfSome (moderated part.workflows (submission part caller page) moderation)
    (FitsPage part page)
submitted_fits part caller page None sound may fits some =
    begun_fits part caller page _ sound may
    (workflow_there part.next_workflow (nearest_workflow part page)
    (nearest_given part page sound) some)
submitted_fits part caller page (Some moderation) sound may fits some =
    by_status moderation.status some
  where
    begins : is_none (nearest_workflow part page) ≡ false →
        FitsPage part page
        (begun (unwrap_or (nearest_workflow part page) 0) (latest_id part page) caller)
    begins given =
        begun_fits part caller page _ sound may
        (workflow_there part.next_workflow (nearest_workflow part page)
        (nearest_given part page sound) given)

    by_status : (status : ModerationStatus) →
        (starts_anew status && is_none (nearest_workflow part page)) ≡ false →
        IfSome
        (moved_on (task_count part moderation) (submission part caller page) status moderation)
        (FitsPage part page)
    by_status InProgress given = tt
    by_status Approved given = begins given
    by_status NeedsChanges given = resumed_fits part caller page moderation may fits
    by_status Cancelled given = begins given

-- what submitting a page leaves of its moderation fits it
pub submit_fits : (part : TreePart) (caller page : ℕ) → AreGroups part → (page ≡ 1 → ⊥) →
    has_page page part.tree ≡ true → HasNoSource part.tree page → caller < part.next_user →
    submit_rules part page ≡ None →
    IfSome (after_event part (submission part caller page) page) (FitsPage part page)
submit_fits part caller page sound below there regular user none =
    submitted_fits part caller page (moderation_of part page) sound
    (record { own = latest_own part page sound below there regular; user = user })
    (moderation_fits part page sound) (test_clear _ NoWorkflow none)

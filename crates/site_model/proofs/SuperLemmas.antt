-- A superuser meets every need, and no rule but that of needs says that one is not met.
use Rattle.std.proofs.Common.{◌≡◌, ℕ, Bool, true, false, not, ◌||◌, List, [], ◌∷◌, length, Option, Some, None, Result, Err, nat_eq, nat_lt, refl, sym, ap, ◌∙◌}
use Rattle.std.specs.List.{list_any}
use Rattle.std.specs.Option.{option_and_then, is_some}
use Rattle.page_tree.specs.Tree.{Forest, has_page}
use Rattle.site_ids.specs.declared.ids.TheConstants.{LAST_USER_ID, LAST_GROUP_ID}
use Rattle.site_types.specs.Content.{ContentValue}
use Rattle.site_types.specs.declared.body.Body.{Body}
use Rattle.site_types.specs.declared.command.Command.{Command}
use Rattle.site_types.specs.declared.command.Command.TheVariants.{Create, Move, Delete, SetSlug, Alias, Detach, Copy, OpenDesk, SaveDesk, ShutDesk, File, Publish, Unpublish, Unschedule, Lock, Unlock, Purge, DefineTask, DefineWorkflow, Assign, Submit, Approve, Reject, Cancel, DefineUser, DefineGroup, Member, Grant, Tick}
use Rattle.site_types.specs.declared.permission.Permission.{Permission}
use Rattle.site_types.specs.declared.refusal.NameKind.TheVariants as kinds
use Rattle.site_types.specs.declared.refusal.Refusal.{Refusal}
use Rattle.site_types.specs.declared.refusal.Refusal.TheVariants.{Denied, NothingNew, NoPage, IsRoot, SlugTaken, IsAlias, IntoItself, StepsFull, TooDeep, UrlTooLong, IdsFull, NoName}
use Rattle.site_types.specs.declared.refusal.Refusal.TheVariants as refusals
use Rattle.site_model.specs.World.{TreePart, time_at}
use Rattle.site_model.specs.Limits.{MAX_GRANTS}
use Rattle.site_model.specs.Rights.{Rights, is_superuser, rights_of, user_of}
use Rattle.site_model.specs.Rules.{refused_if, no_page, no_pages, are_root, ids_full, is_given, no_user, no_group}
use Rattle.site_model.specs.Views.{Stage, body_of, view_of, is_asked}
use Rattle.site_model.specs.Needs.{may, needs_of, denied}
use Rattle.site_model.specs.Front.{Stops, StopsNobody, StopsOthers, StopsEveryone, CommandRow, row_of, locked, is_alias, aliased, in_moderation, locked_by, stage_in, front_by, front_rules}
use Rattle.site_model.specs.Create.{created}
use Rattle.site_model.specs.Users.{is_membership, is_grant, agree, grants_after, user_rules, member_rules, grant_rules}
use Rattle.site_model.specs.Bodies.{latest_of}
use Rattle.site_model.specs.Ticks.{due_at, is_idle}
use Rattle.site_model.specs.Moderations.{WasRejected, WasCancelled}
use Rattle.site_model.specs.Desks.{desk_page, settled}
use Rattle.site_model.specs.Step.{rules, refusal_of, unless_refused, step_by}
use Rattle.site_model.specs.Step as steps
use Rattle.site_model.proofs.DenialLemmas.{is_denied, first_says, test_says, all_say, ids_say, new_says, desk_says, open_says, file_says, publish_says, unpublish_says, unscheduling_says, locking_says, unlocking_says, purge_says}
use Rattle.site_model.proofs.FlowDenials.{task_says, workflow_says, assign_says, submit_says, event_says, approve_says}
use Rattle.site_model.proofs.PageDenials.{create_says, move_says, slug_says, delete_says, aliasing_says, detach_says, copy_says}

-- nor pages that are named
pages_say : (tree : Forest Body) (ids : List ℕ) → is_denied (no_pages tree ids) ≡ false
pages_say tree [] = refl
pages_say tree (id ∷ ids) =
    first_says (no_page tree id) (no_pages tree ids ∷ [])
    (test_says (not (has_page id tree)) (NoPage id) refl)
    (first_says (no_pages tree ids) [] (pages_say tree ids) refl)

-- nor a lock
lock_says : (stops : Stops) (caller : ℕ) (by : Option ℕ) →
    is_denied (locked stops caller by) ≡ false
lock_says StopsNobody caller by = refl
lock_says StopsOthers caller None = refl
lock_says StopsOthers caller (Some user) =
    test_says (not (nat_eq user caller)) (refusals.Locked user) refl
lock_says StopsEveryone caller None = refl
lock_says StopsEveryone caller (Some user) = refl

-- nor an alias
alias_says : (asked : Bool) (body : Option Body) → is_denied (aliased asked body) ≡ false
alias_says false body = refl
alias_says true body = test_says (is_alias body) IsAlias refl

-- nor a moderation
stage_says : (stops : Stops) (rights : Rights) (stage : Option Stage) →
    is_denied (in_moderation stops rights stage) ≡ false
stage_says StopsNobody rights stage = refl
stage_says StopsOthers rights None = refl
stage_says StopsOthers rights (Some stage) =
    test_says (not (rights.super || is_asked rights stage)) (refusals.InModeration stage.task) refl
stage_says StopsEveryone rights None = refl
stage_says StopsEveryone rights (Some stage) = refl

-- a superuser is denied nothing
super_needs : (part : TreePart) (caller : ℕ) (needs : List (Option ℕ)) →
    is_superuser part.users caller ≡ true → denied part caller needs ≡ None
super_needs part caller needs is = rw is refl

-- so the first six rules do not say that a superuser is
front_says : (part : TreePart) (caller : ℕ) (row : CommandRow) (needs : List (Option ℕ)) →
    is_superuser part.users caller ≡ true → is_denied (front_by part caller row needs) ≡ false
front_says part caller row needs is =
    let view = option_and_then (view_of part) row.page in
    first_says (no_pages part.tree row.named) _ (pages_say part.tree row.named)
    (first_says (are_root row.below_root) _
    (test_says (list_any (λ id. nat_eq id 1) row.below_root) IsRoot refl)
    (first_says (denied part caller needs) _
    (ap (λ (one : Option Refusal). is_denied one) (super_needs part caller needs is))
    (first_says (locked row.lock caller (locked_by view)) _
    (lock_says row.lock caller (locked_by view))
    (first_says (aliased row.alias (option_and_then (body_of part.tree) row.page)) _
    (alias_says row.alias (option_and_then (body_of part.tree) row.page))
    (first_says (in_moderation row.moderation (rights_of part caller) (stage_in view)) []
    (stage_says row.moderation (rights_of part caller) (stage_in view)) refl)))))

-- nor a group that is not there
group_says : (part : TreePart) (group : ℕ) → is_denied (no_group part group) ≡ false
group_says part group =
    test_says (not (is_given part.next_group group)) (NoName kinds.Group) refl

-- nor those of users, memberships and grants
member_says : (part : TreePart) (user group : ℕ) (on : Bool) →
    is_denied (member_rules part user group on) ≡ false
member_says part user group on =
    let same = agree on (list_any (is_membership user group) part.members) in
    all_say
    (refused_if same NothingNew ∷ no_user part user ∷ no_group part group ∷ []) (
      new_says same,
      (
        test_says (not (is_given part.next_user user)) (NoName kinds.User) refl,
        (group_says part group, tt),
      ),
    )

-- those of a grant
grant_says : (part : TreePart) (group page : ℕ) (permission : Permission) (on : Bool) →
    is_denied (grant_rules part group page permission on) ≡ false
grant_says part group page permission on =
    let same = agree on (list_any (is_grant group page permission) part.grants) in
    let many = nat_lt MAX_GRANTS (length (grants_after part.grants group page permission on)) in
    all_say
    (refused_if same NothingNew ∷ no_group part group ∷ refused_if many IdsFull ∷ [])
    (new_says same, (group_says part group, (test_says many IdsFull refl, tt)))

-- and of a user
user_says : (part : TreePart) (digest : List ℕ) → is_denied (user_rules part digest) ≡ false
user_says part digest =
    let known = is_some (user_of digest part.users) in
    all_say (refused_if known NothingNew ∷ ids_full LAST_USER_ID part.next_user ∷ [])
    (new_says known, (ids_say LAST_USER_ID part.next_user, tt))

-- nor do the rules of a command's own
own_says : (part : TreePart) (desk : Option ContentValue) (now caller : ℕ) (command : Command) →
    is_denied (rules part desk now caller command) ≡ false
unfolding rules
own_says part desk now caller (Create parent slug content) =
    create_says part (created part now caller parent slug content) parent slug
own_says part desk now caller (Move page target position) = move_says part.tree page target position
own_says part desk now caller (Delete page) = delete_says part now caller page
own_says part desk now caller (SetSlug page slug) = slug_says part.tree page slug
own_says part desk now caller (OpenDesk page) = open_says part page
own_says part desk now caller (SaveDesk page content) = desk_says desk
own_says part desk now caller (ShutDesk page) = desk_says desk
own_says part desk now caller (File page go_live expire) =
    file_says part now caller page go_live expire desk
own_says part desk now caller (Publish page) = publish_says part now page (latest_of part page)
own_says part desk now caller (Unpublish page) = unpublish_says part page
own_says part desk now caller (Lock page) = locking_says caller
own_says part desk now caller (Unlock page) = unlocking_says part page
own_says part desk now caller (Purge page) = purge_says part page
own_says part desk now caller (DefineUser superuser digest) = user_says part digest
own_says part desk now caller DefineGroup = ids_say LAST_GROUP_ID part.next_group
own_says part desk now caller (Member user group on) = member_says part user group on
own_says part desk now caller (Grant group page permission on) =
    grant_says part group page permission on
own_says part desk now caller (Alias source parent slug) =
    aliasing_says part now caller source parent slug
own_says part desk now caller (Detach page) = detach_says part now caller page
own_says part desk now caller (Copy page parent slug deep) =
    copy_says part now caller page parent slug deep
own_says part desk now caller (Unschedule page) = unscheduling_says part page
own_says part desk now caller Tick = new_says (is_idle (due_at part (time_at part now)))
own_says part desk now caller (DefineTask groups) = task_says part groups
own_says part desk now caller (DefineWorkflow tasks) = workflow_says part tasks
own_says part desk now caller (Assign page workflow) = assign_says part page workflow
own_says part desk now caller (Submit page) = submit_says part page
own_says part desk now caller (Approve page) = approve_says part now page
own_says part desk now caller (Reject page) = event_says part WasRejected page
own_says part desk now caller (Cancel page) = event_says part WasCancelled page

-- what is in two refused results that are the same
same_error : {Made : Type 0} (x y : Refusal) → ◌≡◌ {A = Result Made Refusal} (Err x) (Err y) →
    ◌≡◌ {A = Option Refusal} (Some x) (Some y)
same_error x y e = cc

-- a refusal is that of the rules
refused_by : {Made : Type 0} (found : Option Refusal) (made : Made) (refusal : Refusal) →
    unless_refused found made ≡ Err refusal → is_denied found ≡ is_denied (Some refusal)
refused_by {Made} (Some one) made refusal is =
    ap (λ (r : Option Refusal). is_denied r) (same_error {Made = Made} one refusal is)
refused_by None made refusal is = absurd (cc)

-- A superuser meets every need, and is denied nothing.
pub superusers_may_all : (part : TreePart) (desk : Option ContentValue) (now caller need : ℕ)
    (command : Command) → is_superuser part.users caller ≡ true →
    (may part caller command ≡ None)
    × (step_by part desk now caller command ≡ Err (Denied need) → ⊥)
unfolding step_by front_rules
superusers_may_all part desk now caller need command is = (
  rw is refl,
  λ no.
      let says = first_says (front_rules part caller command) _
      (front_says part caller (row_of command) (needs_of part caller command) is)
      (first_says (rules part desk now caller command) [] (own_says part desk now caller command)
      refl) in
      let same = refused_by (refusal_of part desk now caller command)
      (settled caller (desk_page command) (steps.effect part desk now caller command))
      (Denied need) no
      in absurd (both_values (sym says ∙ same)),
)
  where
    both_values : false ≡ true → ⊥
    both_values e = cc

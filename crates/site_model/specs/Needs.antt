-- What a caller needs for a command: rights that are tried in order, of which the first that is not
-- met refuses it.
use Rattle.std.specs.Prelude.{ℕ, Bool, true, false, ◌==◌, ◌&&◌, ◌||◌, List, [], ◌∷◌, Option, Some, None, if◌then◌else◌}
use Rattle.std.specs.Option.{option_map}
use Rattle.site_types.specs.declared.body.Body.{Body}
use Rattle.site_types.specs.declared.command.Command.{Command}
use Rattle.site_types.specs.declared.command.Command.TheVariants as commands
use Rattle.site_types.specs.declared.moderation.Moderation.{Moderation}
use Rattle.site_types.specs.declared.permission.Permission.{Permission}
use Rattle.site_types.specs.declared.permission.Permission.TheVariants.{Add, Change, Publish, BulkDelete, Lock, Unlock}
use Rattle.site_types.specs.declared.position.Position.{Position}
use Rattle.site_types.specs.declared.refusal.Refusal.{Refusal}
use Rattle.site_types.specs.declared.refusal.Refusal.TheVariants.{Denied}
use Rattle.tree_model.specs.Places.{parent_at}
use Rattle.site_model.specs.World.{TreePart}
use Rattle.site_model.specs.Rights.{Rights, permission_number, is_superuser, rights_of, has}
use Rattle.site_model.specs.Views.{View, Stage, body_of, owns_all, is_live_page, any_live, has_kids, view_of, meets, is_asked, may_edit}

-- the number of the need to be a superuser; those from 1 to 6 are the numbers of permissions
abbrev pub SUPERUSER_NEED : ℕ
SUPERUSER_NEED = 7

-- the number of the need to be asked by the current task of a moderation
abbrev pub APPROVE_NEED : ℕ
APPROVE_NEED = 8

-- a need by its number, where it is not met
abbrev pub unless_met : Bool → ℕ → Option ℕ
unless_met met need = if met then None else Some need

-- the first need that is not met
abbrev pub first_unmet : List (Option ℕ) → Option ℕ
first_unmet [] = None
first_unmet (None ∷ needs) = first_unmet needs
first_unmet (Some need ∷ needs) = Some need

-- the need to hold a permission at a page
abbrev pub need_at : TreePart → ℕ → Permission → ℕ → Option ℕ
need_at part user permission page =
    unless_met (has part user permission page) (permission_number permission)

-- the same, where a test holds
abbrev pub need_where : Bool → TreePart → ℕ → Permission → ℕ → Option ℕ
need_where test part user permission page =
    if test then need_at part user permission page else None

-- the need to edit a page
abbrev pub edit_need : TreePart → ℕ → ℕ → Option ℕ
edit_need part user page =
    unless_met (meets (may_edit (rights_of part user)) (view_of part page))
    (permission_number Change)

-- The need to take a page away with all below it: to hold change at it, or to hold add at it and
-- own it and every page below it.
abbrev pub take_need : TreePart → ℕ → ℕ → Option ℕ
take_need part user page =
    unless_met
    (has part user Change page
    || (has part user Add page && owns_all part.tree user page))
    (permission_number Change)

-- the need to publish at a page, where another or a page below that one is live
abbrev pub live_need : TreePart → ℕ → ℕ → ℕ → Option ℕ
live_need part user page at = need_where (any_live part.tree page) part user Publish at

-- whether this user has locked the page
abbrev pub has_locked : ℕ → View → Bool
has_locked user view = is_by view.locked_by
  where
    is_by : Option ℕ → Bool
    is_by None = false
    is_by (Some other) = other == user

-- whether this user has submitted the moderation of a page of which this is kept
abbrev pub has_submitted : ℕ → Option Body → Bool
has_submitted user None = false
has_submitted user (Some body) = is_by body.moderation
  where
    is_by : Option Moderation → Bool
    is_by None = false
    is_by (Some moderation) = moderation.by == user

-- whether one may answer the moderation of a page: where it is in progress, only who is asked may
abbrev pub may_answer : Rights → View → Bool
may_answer rights view = answers view.stage
  where
    answers : Option Stage → Bool
    answers None = true
    answers (Some stage) = is_asked rights stage

-- the needs of a creation
abbrev pub create_needs : TreePart → ℕ → ℕ → List (Option ℕ)
create_needs part user parent = need_at part user Add parent ∷ []

-- the needs of a move
abbrev pub move_needs : TreePart → ℕ → ℕ → ℕ → Position → List (Option ℕ)
move_needs part user page target position =
    let parent = parent_at part.tree target position in
    take_need part user page
    ∷ live_need part user page page
    ∷ need_at part user Add parent
    ∷ live_need part user page parent
    ∷ []

-- the needs of a deletion
abbrev pub delete_needs : TreePart → ℕ → ℕ → List (Option ℕ)
delete_needs part user page =
    take_need part user page
    ∷ live_need part user page page
    ∷ need_where (has_kids part.tree page) part user BulkDelete page
    ∷ []

-- the needs of another slug
abbrev pub slug_needs : TreePart → ℕ → ℕ → List (Option ℕ)
slug_needs part user page = edit_need part user page ∷ live_need part user page page ∷ []

-- the needs of an alias
abbrev pub alias_needs : TreePart → ℕ → ℕ → ℕ → List (Option ℕ)
alias_needs part user source parent =
    need_at part user Add parent
    ∷ need_where (is_live_page part.tree source) part user Publish parent
    ∷ []

-- the needs of making an alias a regular page
abbrev pub detach_needs : TreePart → ℕ → ℕ → List (Option ℕ)
detach_needs part user page =
    edit_need part user page
    ∷ need_where (is_live_page part.tree page) part user Publish page
    ∷ []

-- the need to edit, alone
abbrev pub edit_needs : TreePart → ℕ → ℕ → List (Option ℕ)
edit_needs part user page = edit_need part user page ∷ []

-- the need of a permission, alone
abbrev pub needs_at : TreePart → ℕ → Permission → ℕ → List (Option ℕ)
needs_at part user permission page = need_at part user permission page ∷ []

-- the need to unlock a page, which whoever has locked it does not have
abbrev pub unlock_needs : TreePart → ℕ → ℕ → List (Option ℕ)
unlock_needs part user page =
    unless_met (meets (has_locked user) (view_of part page) || has part user Unlock page)
    (permission_number Unlock)
    ∷ []

-- the need to answer a moderation
abbrev pub answer_needs : TreePart → ℕ → ℕ → List (Option ℕ)
answer_needs part user page =
    unless_met (meets (may_answer (rights_of part user)) (view_of part page)) APPROVE_NEED ∷ []

-- the need to give a moderation up, which whoever has submitted it does not have
abbrev pub cancel_needs : TreePart → ℕ → ℕ → List (Option ℕ)
cancel_needs part user page =
    unless_met (has_submitted user (body_of part.tree page) || has part user Publish page)
    (permission_number Publish)
    ∷ []

-- the need to be a superuser
abbrev pub superuser_needs : TreePart → ℕ → List (Option ℕ)
superuser_needs part user = unless_met (is_superuser part.users user) SUPERUSER_NEED ∷ []

-- The needs of a command, in their order. What works on the caller's own desk needs nothing more:
-- the desk is the right.
unfoldable pub needs_of : TreePart → ℕ → Command → List (Option ℕ)
needs_of part user (commands.Create parent slug content) = create_needs part user parent
needs_of part user (commands.Move page target position) =
    move_needs part user page target position
needs_of part user (commands.Delete page) = delete_needs part user page
needs_of part user (commands.SetSlug page slug) = slug_needs part user page
needs_of part user (commands.Alias source parent slug) = alias_needs part user source parent
needs_of part user (commands.Detach page) = detach_needs part user page
needs_of part user (commands.Copy page parent slug deep) = create_needs part user parent
needs_of part user (commands.OpenDesk page) = edit_needs part user page
needs_of part user (commands.SaveDesk page content) = []
needs_of part user (commands.ShutDesk page) = []
needs_of part user (commands.File page go_live expire) = []
needs_of part user (commands.Publish page) = needs_at part user Publish page
needs_of part user (commands.Unpublish page) = needs_at part user Publish page
needs_of part user (commands.Unschedule page) = needs_at part user Publish page
needs_of part user (commands.Lock page) = needs_at part user Lock page
needs_of part user (commands.Unlock page) = unlock_needs part user page
needs_of part user (commands.Purge page) = edit_needs part user page
needs_of part user (commands.DefineTask groups) = superuser_needs part user
needs_of part user (commands.DefineWorkflow tasks) = superuser_needs part user
needs_of part user (commands.Assign page workflow) = superuser_needs part user
needs_of part user (commands.Submit page) = edit_needs part user page
needs_of part user (commands.Approve page) = answer_needs part user page
needs_of part user (commands.Reject page) = answer_needs part user page
needs_of part user (commands.Cancel page) = cancel_needs part user page
needs_of part user (commands.DefineUser superuser digest) = superuser_needs part user
needs_of part user commands.DefineGroup = superuser_needs part user
needs_of part user (commands.Member member group on) = superuser_needs part user
needs_of part user (commands.Grant group page permission on) = superuser_needs part user
needs_of part user commands.Tick = superuser_needs part user

-- the needs of a checkpoint, which is no command
abbrev pub checkpoint_needs : TreePart → ℕ → List (Option ℕ)
checkpoint_needs part user = superuser_needs part user

-- the first of these needs that the user does not meet: a superuser meets every one
abbrev pub unmet : TreePart → ℕ → List (Option ℕ) → Option ℕ
unmet part user needs = if is_superuser part.users user then None else first_unmet needs

-- the first need of the command that the user does not meet, or none
abbrev pub may : TreePart → ℕ → Command → Option ℕ
may part user command = unmet part user (needs_of part user command)

-- the caller does not meet a need
abbrev pub denied : TreePart → ℕ → List (Option ℕ) → Option Refusal
denied part user needs = option_map Denied (unmet part user needs)

-- The forms of commands: a tag of one byte, from 1 to 29, and the command's fields.
use Rattle.std.specs.Prelude.{◌≡◌, ◌≤◌, ℕ, List, [], ◌∷◌, ◌++◌, length}
use Rattle.site_types.specs.Ids.{IsPageId, IsUserId, IsGroupId, IsWorkflowId}
use Rattle.site_types.specs.Moment.{IsMoment}
use Rattle.site_types.specs.Slug.{IsSlug}
use Rattle.site_types.specs.Content.{content_form}
use Rattle.site_ids.specs.declared.digest.TheConstants.{DIGEST_BYTES}
use Rattle.site_types.specs.declared.command.Command.{Command}
use Rattle.site_types.specs.declared.command.Command.TheVariants.{Create, Move, Delete, SetSlug, Alias, Detach, Copy, OpenDesk, SaveDesk, ShutDesk, File, Publish, Unpublish, Unschedule, Lock, Unlock, Purge, DefineTask, DefineWorkflow, Assign, Submit, Approve, Reject, Cancel, DefineUser, DefineGroup, Member, Grant, Tick}
use Rattle.site_types.specs.declared.position.Position.{Position}
use Rattle.site_types.specs.declared.position.Position.TheVariants.{FirstChild, LastChild, FirstSibling, Left, Right, LastSibling}
use Rattle.site_types.specs.declared.permission.Permission.{Permission}
use Rattle.site_types.specs.declared.permission.Permission.TheVariants as permissions
use Rattle.byte_forms.specs.Fields.{truth_form, id_form, optional_id_form, optional_moment_form, slug_form, ids_form, AreGroups, AreTasks, IfThere}
use Rattle.byte_forms.specs.Contents.{IsContent}

-- the number of a position, from 1 to 6
abbrev pub position_number : Position → ℕ
position_number FirstChild = 1
position_number LastChild = 2
position_number FirstSibling = 3
position_number Left = 4
position_number Right = 5
position_number LastSibling = 6

-- a position: one byte
abbrev pub position_form : Position → List ℕ
position_form position = position_number position ∷ []

-- the number of a permission, from 1 to 6
abbrev pub permission_number : Permission → ℕ
permission_number permissions.Add = 1
permission_number permissions.Change = 2
permission_number permissions.Publish = 3
permission_number permissions.BulkDelete = 4
permission_number permissions.Lock = 5
permission_number permissions.Unlock = 6

-- a permission: one byte
abbrev pub permission_form : Permission → List ℕ
permission_form permission = permission_number permission ∷ []

-- a command: its tag, and its fields one after the other
unfoldable pub command_form : Command → List ℕ
command_form (Create parent slug content) =
    1 ∷ id_form parent ++ slug_form slug ++ content_form content
command_form (Move page target position) =
    2 ∷ id_form page ++ id_form target ++ position_form position
command_form (Delete page) = 3 ∷ id_form page
command_form (SetSlug page slug) = 4 ∷ id_form page ++ slug_form slug
command_form (Alias source parent slug) = 5 ∷ id_form source ++ id_form parent ++ slug_form slug
command_form (Detach page) = 6 ∷ id_form page
command_form (Copy page parent slug deep) =
    7 ∷ id_form page ++ id_form parent ++ slug_form slug ++ truth_form deep
command_form (OpenDesk page) = 8 ∷ id_form page
command_form (SaveDesk page content) = 9 ∷ id_form page ++ content_form content
command_form (ShutDesk page) = 10 ∷ id_form page
command_form (File page go_live expire) =
    11 ∷ id_form page ++ optional_moment_form go_live ++ optional_moment_form expire
command_form (Publish page) = 12 ∷ id_form page
command_form (Unpublish page) = 13 ∷ id_form page
command_form (Unschedule page) = 14 ∷ id_form page
command_form (Lock page) = 15 ∷ id_form page
command_form (Unlock page) = 16 ∷ id_form page
command_form (Purge page) = 17 ∷ id_form page
command_form (DefineTask groups) = 18 ∷ ids_form groups
command_form (DefineWorkflow tasks) = 19 ∷ ids_form tasks
command_form (Assign page workflow) = 20 ∷ id_form page ++ optional_id_form workflow
command_form (Submit page) = 21 ∷ id_form page
command_form (Approve page) = 22 ∷ id_form page
command_form (Reject page) = 23 ∷ id_form page
command_form (Cancel page) = 24 ∷ id_form page
command_form (DefineUser superuser digest) = 25 ∷ truth_form superuser ++ digest
command_form DefineGroup = 26 ∷ []
command_form (Member user group on) = 27 ∷ id_form user ++ id_form group ++ truth_form on
command_form (Grant group page permission on) =
    28 ∷ id_form group ++ id_form page ++ permission_form permission ++ truth_form on
command_form Tick = 29 ∷ []

-- a command has a form where each field is in its range
unfoldable pub IsCommand : Command → Type 0
IsCommand (Create parent slug content) = IsPageId parent × IsSlug slug × IsContent content
IsCommand (Move page target position) = IsPageId page × IsPageId target
IsCommand (Delete page) = IsPageId page
IsCommand (SetSlug page slug) = IsPageId page × IsSlug slug
IsCommand (Alias source parent slug) = IsPageId source × IsPageId parent × IsSlug slug
IsCommand (Detach page) = IsPageId page
IsCommand (Copy page parent slug deep) = IsPageId page × IsPageId parent × IsSlug slug
IsCommand (OpenDesk page) = IsPageId page
IsCommand (SaveDesk page content) = IsPageId page × IsContent content
IsCommand (ShutDesk page) = IsPageId page
IsCommand (File page go_live expire) =
    IsPageId page × IfThere IsMoment go_live × IfThere IsMoment expire
IsCommand (Publish page) = IsPageId page
IsCommand (Unpublish page) = IsPageId page
IsCommand (Unschedule page) = IsPageId page
IsCommand (Lock page) = IsPageId page
IsCommand (Unlock page) = IsPageId page
IsCommand (Purge page) = IsPageId page
IsCommand (DefineTask groups) = AreGroups groups
IsCommand (DefineWorkflow tasks) = AreTasks tasks
IsCommand (Assign page workflow) = IsPageId page × IfThere IsWorkflowId workflow
IsCommand (Submit page) = IsPageId page
IsCommand (Approve page) = IsPageId page
IsCommand (Reject page) = IsPageId page
IsCommand (Cancel page) = IsPageId page
IsCommand (DefineUser superuser digest) = length digest ≡ DIGEST_BYTES
IsCommand DefineGroup = Unit {0}
IsCommand (Member user group on) = IsUserId user × IsGroupId group
IsCommand (Grant group page permission on) = IsGroupId group × IsPageId page
IsCommand Tick = Unit {0}

-- What the types of a command's fields leave open: a slug is not empty, and a list of groups or
-- tasks is one. All else of `IsCommand` holds of every command that a program has.
abbrev pub KeepsForm : Command → Type 0
KeepsForm (Create _ slug _) = 1 ≤ length slug
KeepsForm (SetSlug _ slug) = 1 ≤ length slug
KeepsForm (Alias _ _ slug) = 1 ≤ length slug
KeepsForm (Copy _ _ slug _) = 1 ≤ length slug
KeepsForm (DefineTask groups) = AreGroups groups
KeepsForm (DefineWorkflow tasks) = AreTasks tasks
KeepsForm _ = Unit {0}

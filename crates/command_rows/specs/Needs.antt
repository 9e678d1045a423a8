-- What a command needs of its caller, in memory and as the model has it.
use Rattle.std.specs.Prelude.{◌≡◌, ℕ, true, List, [], Option}
use Rattle.site_types.specs.declared.command.Command.{Command}
use Rattle.site_types.specs.declared.command.Command.TheVariants as commands
use Rattle.site_types.specs.declared.permission.Permission.TheVariants.{Publish, Lock}
use Rattle.tree_model.specs.Places.{is_beside}
use Rattle.site_model.specs.World.{TreePart}
use Rattle.site_model.specs.Needs as needs
use Rattle.command_rows.specs.declared.needing.NeedRow.{NeedRow}
use Rattle.command_rows.specs.declared.needing.NeedRow.TheVariants as rows

-- the kind of needs that a command has
abbrev pub need_row_of : Command → NeedRow
need_row_of (commands.Create parent slug content) = rows.Add parent
need_row_of (commands.Move page target position) = rows.Move page target position
need_row_of (commands.Delete page) = rows.Delete page
need_row_of (commands.SetSlug page slug) = rows.Rename page
need_row_of (commands.Alias source parent slug) = rows.Alias source parent
need_row_of (commands.Detach page) = rows.Detach page
need_row_of (commands.Copy page parent slug deep) = rows.Add parent
need_row_of (commands.OpenDesk page) = rows.Edit page
need_row_of (commands.SaveDesk page content) = rows.Nothing
need_row_of (commands.ShutDesk page) = rows.Nothing
need_row_of (commands.File page go_live expire) = rows.Nothing
need_row_of (commands.Publish page) = rows.Hold Publish page
need_row_of (commands.Unpublish page) = rows.Hold Publish page
need_row_of (commands.Unschedule page) = rows.Hold Publish page
need_row_of (commands.Lock page) = rows.Hold Lock page
need_row_of (commands.Unlock page) = rows.Unlock page
need_row_of (commands.Purge page) = rows.Edit page
need_row_of (commands.DefineTask groups) = rows.Superuser
need_row_of (commands.DefineWorkflow tasks) = rows.Superuser
need_row_of (commands.Assign page workflow) = rows.Superuser
need_row_of (commands.Submit page) = rows.Edit page
need_row_of (commands.Approve page) = rows.Answer page
need_row_of (commands.Reject page) = rows.Answer page
need_row_of (commands.Cancel page) = rows.Cancel page
need_row_of (commands.DefineUser superuser digest) = rows.Superuser
need_row_of commands.DefineGroup = rows.Superuser
need_row_of (commands.Member member group on) = rows.Superuser
need_row_of (commands.Grant group page permission on) = rows.Superuser
need_row_of commands.Tick = rows.Superuser

-- the needs of a kind, in their order
abbrev pub seen_needs : TreePart → ℕ → NeedRow → List (Option ℕ)
seen_needs part user rows.Nothing = []
seen_needs part user rows.Superuser = needs.superuser_needs part user
seen_needs part user (rows.Add parent) = needs.create_needs part user parent
seen_needs part user (rows.Move page target position) =
    needs.move_needs part user page target position
seen_needs part user (rows.Delete page) = needs.delete_needs part user page
seen_needs part user (rows.Rename page) = needs.slug_needs part user page
seen_needs part user (rows.Alias source parent) = needs.alias_needs part user source parent
seen_needs part user (rows.Detach page) = needs.detach_needs part user page
seen_needs part user (rows.Edit page) = needs.edit_needs part user page
seen_needs part user (rows.Hold permission page) = needs.needs_at part user permission page
seen_needs part user (rows.Unlock page) = needs.unlock_needs part user page
seen_needs part user (rows.Answer page) = needs.answer_needs part user page
seen_needs part user (rows.Cancel page) = needs.cancel_needs part user page

-- Each page that the needs look at passes the test, and a target beside which a page is to stand is
-- not the root.
abbrev pub AreNamed : (ℕ → Type 0) → NeedRow → Type 0
AreNamed Passes rows.Nothing = Unit {0}
AreNamed Passes rows.Superuser = Unit {0}
AreNamed Passes (rows.Add parent) = Passes parent
AreNamed Passes (rows.Move page target position) =
    Passes page × Passes target × (is_beside position ≡ true → target ≡ 1 → ⊥)
AreNamed Passes (rows.Delete page) = Passes page
AreNamed Passes (rows.Rename page) = Passes page
AreNamed Passes (rows.Alias source parent) = Passes source × Passes parent
AreNamed Passes (rows.Detach page) = Passes page
AreNamed Passes (rows.Edit page) = Passes page
AreNamed Passes (rows.Hold permission page) = Passes page
AreNamed Passes (rows.Unlock page) = Passes page
AreNamed Passes (rows.Answer page) = Passes page
AreNamed Passes (rows.Cancel page) = Passes page

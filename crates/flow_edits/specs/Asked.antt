-- Which commands are planned here.
use Rattle.std.specs.Prelude.{Bool, true, false}
use Rattle.site_types.specs.declared.command.Command.{Command}
use Rattle.site_types.specs.declared.command.Command.TheVariants as commands

-- whether the command is planned here: those on drafts, publishing, locks and revisions, those of
-- moderation, those on users and groups, and ticks; a text that is saved needs no plan
abbrev pub is_flow : Command → Bool
is_flow (commands.Create parent slug content) = false
is_flow (commands.Move page target position) = false
is_flow (commands.Delete page) = false
is_flow (commands.SetSlug page slug) = false
is_flow (commands.Alias source parent slug) = false
is_flow (commands.Detach page) = false
is_flow (commands.Copy page parent slug deep) = false
is_flow (commands.OpenDesk page) = true
is_flow (commands.SaveDesk page content) = false
is_flow (commands.ShutDesk page) = true
is_flow (commands.File page go_live expire) = true
is_flow (commands.Publish page) = true
is_flow (commands.Unpublish page) = true
is_flow (commands.Unschedule page) = true
is_flow (commands.Lock page) = true
is_flow (commands.Unlock page) = true
is_flow (commands.Purge page) = true
is_flow (commands.DefineTask groups) = true
is_flow (commands.DefineWorkflow tasks) = true
is_flow (commands.Assign page workflow) = true
is_flow (commands.Submit page) = true
is_flow (commands.Approve page) = true
is_flow (commands.Reject page) = true
is_flow (commands.Cancel page) = true
is_flow (commands.DefineUser superuser digest) = true
is_flow commands.DefineGroup = true
is_flow (commands.Member user group on) = true
is_flow (commands.Grant group page permission on) = true
is_flow commands.Tick = true

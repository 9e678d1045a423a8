-- Which commands are those on the tree.
use Rattle.std.specs.Prelude.{Bool, true, false}
use Rattle.site_types.specs.declared.command.Command.{Command}
use Rattle.site_types.specs.declared.command.Command.TheVariants as commands

-- whether the command is one on the tree
abbrev pub is_on_tree : Command → Bool
is_on_tree (commands.Create parent slug content) = true
is_on_tree (commands.Move page target position) = true
is_on_tree (commands.Delete page) = true
is_on_tree (commands.SetSlug page slug) = true
is_on_tree (commands.Alias source parent slug) = true
is_on_tree (commands.Detach page) = true
is_on_tree (commands.Copy page parent slug deep) = true
is_on_tree (commands.OpenDesk page) = false
is_on_tree (commands.SaveDesk page content) = false
is_on_tree (commands.ShutDesk page) = false
is_on_tree (commands.File page go_live expire) = false
is_on_tree (commands.Publish page) = false
is_on_tree (commands.Unpublish page) = false
is_on_tree (commands.Unschedule page) = false
is_on_tree (commands.Lock page) = false
is_on_tree (commands.Unlock page) = false
is_on_tree (commands.Purge page) = false
is_on_tree (commands.DefineTask groups) = false
is_on_tree (commands.DefineWorkflow tasks) = false
is_on_tree (commands.Assign page workflow) = false
is_on_tree (commands.Submit page) = false
is_on_tree (commands.Approve page) = false
is_on_tree (commands.Reject page) = false
is_on_tree (commands.Cancel page) = false
is_on_tree (commands.DefineUser superuser digest) = false
is_on_tree commands.DefineGroup = false
is_on_tree (commands.Member user group on) = false
is_on_tree (commands.Grant group page permission on) = false
is_on_tree commands.Tick = false

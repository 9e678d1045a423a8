-- The groups that commands are prepared in.
use Rattle.site_types.specs.declared.command.Command.{Command}
use Rattle.site_types.specs.declared.command.Command.TheVariants as commands
use Rattle.site_core.specs.declared.group.Group.{Group}
use Rattle.site_core.specs.declared.group.Group.TheVariants as kinds

-- the group of a command: those on the tree; those on drafts, publishing, moderation and people; and the
-- one that saves a desk
abbrev pub group_of : Command → Group
group_of (commands.Create parent slug content) = kinds.Tree
group_of (commands.Move page target position) = kinds.Tree
group_of (commands.Delete page) = kinds.Tree
group_of (commands.SetSlug page slug) = kinds.Tree
group_of (commands.Alias source parent slug) = kinds.Tree
group_of (commands.Detach page) = kinds.Tree
group_of (commands.Copy page parent slug deep) = kinds.Tree
group_of (commands.OpenDesk page) = kinds.Flow
group_of (commands.SaveDesk page content) = kinds.Save
group_of (commands.ShutDesk page) = kinds.Flow
group_of (commands.File page go_live expire) = kinds.Flow
group_of (commands.Publish page) = kinds.Flow
group_of (commands.Unpublish page) = kinds.Flow
group_of (commands.Unschedule page) = kinds.Flow
group_of (commands.Lock page) = kinds.Flow
group_of (commands.Unlock page) = kinds.Flow
group_of (commands.Purge page) = kinds.Flow
group_of (commands.DefineTask groups) = kinds.Flow
group_of (commands.DefineWorkflow tasks) = kinds.Flow
group_of (commands.Assign page workflow) = kinds.Flow
group_of (commands.Submit page) = kinds.Flow
group_of (commands.Approve page) = kinds.Flow
group_of (commands.Reject page) = kinds.Flow
group_of (commands.Cancel page) = kinds.Flow
group_of (commands.DefineUser superuser digest) = kinds.Flow
group_of commands.DefineGroup = kinds.Flow
group_of (commands.Member user group on) = kinds.Flow
group_of (commands.Grant group page permission on) = kinds.Flow
group_of commands.Tick = kinds.Flow

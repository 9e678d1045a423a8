-- The groups that commands are prepared in.
use Rattle.std.proofs.Common.{◌≡◌, ℕ, true, None, refl}
use Rattle.site_types.specs.Content.{ContentValue}
use Rattle.site_types.specs.declared.command.Command.{Command}
use Rattle.site_types.specs.declared.command.Command.TheVariants as commands
use Rattle.site_model.specs.Step.{saving}
use Rattle.site_core.specs.Groups.{group_of}
use Rattle.site_core.specs.declared.group.Group.TheVariants as groups
use Rattle.flow_edits.specs.Asked.{is_flow}
use Rattle.tree_edits.specs.OnTree.{is_on_tree}

-- a command that is prepared with those on the tree is one of them
pub tree_grouped : (command : Command) → group_of command ≡ groups.Tree →
    is_on_tree command ≡ true
tree_grouped (commands.Create parent slug content) is = refl
tree_grouped (commands.Move page target position) is = refl
tree_grouped (commands.Delete page) is = refl
tree_grouped (commands.SetSlug page slug) is = refl
tree_grouped (commands.Alias source parent slug) is = refl
tree_grouped (commands.Detach page) is = refl
tree_grouped (commands.Copy page parent slug deep) is = refl
tree_grouped _ is = absurd (cc)

-- a command that is prepared with those on drafts, publishing, moderation and people is one of them
pub flow_grouped : (command : Command) → group_of command ≡ groups.Flow →
    is_flow command ≡ true
flow_grouped (commands.OpenDesk page) is = refl
flow_grouped (commands.ShutDesk page) is = refl
flow_grouped (commands.File page go_live expire) is = refl
flow_grouped (commands.Publish page) is = refl
flow_grouped (commands.Unpublish page) is = refl
flow_grouped (commands.Unschedule page) is = refl
flow_grouped (commands.Lock page) is = refl
flow_grouped (commands.Unlock page) is = refl
flow_grouped (commands.Purge page) is = refl
flow_grouped (commands.DefineTask groups) is = refl
flow_grouped (commands.DefineWorkflow tasks) is = refl
flow_grouped (commands.Assign page workflow) is = refl
flow_grouped (commands.Submit page) is = refl
flow_grouped (commands.Approve page) is = refl
flow_grouped (commands.Reject page) is = refl
flow_grouped (commands.Cancel page) is = refl
flow_grouped (commands.DefineUser superuser digest) is = refl
flow_grouped commands.DefineGroup is = refl
flow_grouped (commands.Member user group on) is = refl
flow_grouped (commands.Grant group page permission on) is = refl
flow_grouped commands.Tick is = refl
flow_grouped _ is = absurd (cc)

-- the command that saves a desk saves one
pub save_grouped : (command : Command) → group_of command ≡ groups.Save →
    saving command ≡ None → ⊥
unfolding saving
save_grouped (commands.SaveDesk page content) is none = cc
save_grouped _ is none = absurd (cc)

-- no other does
pub saves_none : (command : Command) →
    ((page : ℕ) (content : ContentValue) → command ≡ commands.SaveDesk page content → ⊥) →
    saving command ≡ None
unfolding saving
saves_none (commands.SaveDesk page content) other = absurd (other page content refl)
saves_none _ other = refl

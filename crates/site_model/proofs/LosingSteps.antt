-- Which open desks an accepted command ends.
use Rattle.std.proofs.Common.{◌≡◌, ℕ, Option, None, Ok}
use Rattle.site_types.specs.Content.{ContentValue}
use Rattle.site_types.specs.declared.command.Command.{Command}
use Rattle.site_types.specs.declared.command.Command.TheVariants as commands
use Rattle.site_model.specs.World.{TreePart, Effect}
use Rattle.site_model.specs.Front.{front_rules}
use Rattle.site_model.specs.Step.{rules, step_by}
use Rattle.site_model.specs.Step as steps
use Rattle.site_model.specs.Sound.{IsSoundPart}
use Rattle.site_model.specs.Losing.{LosesFew}
use Rattle.site_model.proofs.AcceptLemmas.{accepted}
use Rattle.site_model.proofs.LosingLemmas.{EndsFew, loses_few}
use Rattle.site_model.proofs.LosingPages.{create_few, move_few, delete_few, slug_few, alias_few, detach_few, copy_few}
use Rattle.site_model.proofs.LosingOpen.{open_few}
use Rattle.site_model.proofs.LosingWork.{save_few, shut_few, file_few, publish_few, unpublish_few, unschedule_few, lock_few, unlock_few, purge_few, assign_few, submit_few, approve_few, reject_few, cancel_few, tick_few}
use Rattle.site_model.proofs.LosingNames.{task_few, workflow_few, user_few, group_few, member_few, grant_few}

-- what each command comes to of itself
pub each_few : (part : TreePart) (desk : Option ContentValue) (now caller : ℕ)
    (command : Command) → IsSoundPart part → front_rules part caller command ≡ None →
    rules part desk now caller command ≡ None →
    EndsFew part caller command (steps.effect part desk now caller command)
each_few part desk now caller (commands.Create parent slug content) sound front own =
    create_few part desk now caller parent slug content sound
each_few part desk now caller (commands.Move page target position) sound front own =
    move_few part desk now caller page target position sound
each_few part desk now caller (commands.Delete page) sound front own =
    delete_few part desk now caller page sound
each_few part desk now caller (commands.SetSlug page slug) sound front own =
    slug_few part desk now caller page slug
each_few part desk now caller (commands.Alias source parent slug) sound front own =
    alias_few part desk now caller source parent slug sound
each_few part desk now caller (commands.Detach page) sound front own =
    detach_few part desk now caller page
each_few part desk now caller (commands.Copy page parent slug deep) sound front own =
    copy_few part desk now caller page parent slug deep sound
each_few part desk now caller (commands.OpenDesk page) sound front own =
    open_few part desk now caller page front
each_few part desk now caller (commands.SaveDesk page content) sound front own =
    save_few part desk now caller page content
each_few part desk now caller (commands.ShutDesk page) sound front own =
    shut_few part desk now caller page
each_few part desk now caller (commands.File page go_live expire) sound front own =
    file_few part desk now caller page go_live expire own
each_few part desk now caller (commands.Publish page) sound front own =
    publish_few part desk now caller page
each_few part desk now caller (commands.Unpublish page) sound front own =
    unpublish_few part desk now caller page
each_few part desk now caller (commands.Unschedule page) sound front own =
    unschedule_few part desk now caller page
each_few part desk now caller (commands.Lock page) sound front own =
    lock_few part desk now caller page
each_few part desk now caller (commands.Unlock page) sound front own =
    unlock_few part desk now caller page
each_few part desk now caller (commands.Purge page) sound front own =
    purge_few part desk now caller page
each_few part desk now caller (commands.DefineTask groups) sound front own =
    task_few part desk now caller groups sound
each_few part desk now caller (commands.DefineWorkflow tasks) sound front own =
    workflow_few part desk now caller tasks sound
each_few part desk now caller (commands.Assign page workflow) sound front own =
    assign_few part desk now caller page workflow
each_few part desk now caller (commands.Submit page) sound front own =
    submit_few part desk now caller page
each_few part desk now caller (commands.Approve page) sound front own =
    approve_few part desk now caller page
each_few part desk now caller (commands.Reject page) sound front own =
    reject_few part desk now caller page
each_few part desk now caller (commands.Cancel page) sound front own =
    cancel_few part desk now caller page
each_few part desk now caller (commands.DefineUser superuser digest) sound front own =
    user_few part desk now caller superuser digest sound
each_few part desk now caller commands.DefineGroup sound front own =
    group_few part desk now caller
each_few part desk now caller (commands.Member user group on) sound front own =
    member_few part desk now caller user group on
each_few part desk now caller (commands.Grant group page permission on) sound front own =
    grant_few part desk now caller group page permission on
each_few part desk now caller commands.Tick sound front own = tick_few part desk now caller

-- Which open desks an accepted command ends.
pub ended_are : (before after : TreePart) (told : Effect) (desk : Option ContentValue)
    (now caller : ℕ) (command : Command) → IsSoundPart before →
    step_by before desk now caller command ≡ Ok (after, told) →
    LosesFew before after told caller command
ended_are before after told desk now caller command sound is =
    let one = accepted before after told desk now caller command is in
    loses_few before after told caller command (steps.effect before desk now caller command)
    sound.desks (each_few before desk now caller command sound one.front one.own) one.done

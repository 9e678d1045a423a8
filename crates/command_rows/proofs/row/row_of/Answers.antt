-- Each command has the row that its name stands at.
use Rattle.std.proofs.Common.{sym, ap, ◌∙◌}
use Rattle.site_model.specs.Front.{row_of}
use Rattle.command_rows.proofs.row.row_of.Goals as goal

pub returns-in-Create : goal.returns-in-Create
unfolding row_of
returns-in-Create c = c.naming.ensures ∙ sym (ap row_of c.in-Create.is)

pub returns-in-Move : goal.returns-in-Move
unfolding row_of
returns-in-Move c = c.on_move.ensures ∙ sym (ap row_of c.in-Move.is)

pub returns-in-Delete : goal.returns-in-Delete
unfolding row_of
returns-in-Delete c = c.on_page.ensures ∙ sym (ap row_of c.in-Delete.is)

pub returns-in-SetSlug : goal.returns-in-SetSlug
unfolding row_of
returns-in-SetSlug c = c.on_page-in-SetSlug.ensures ∙ sym (ap row_of c.in-SetSlug.is)

pub returns-in-Alias : goal.returns-in-Alias
unfolding row_of
returns-in-Alias c = c.naming-in-Alias.ensures ∙ sym (ap row_of c.in-Alias.is)

pub returns-in-Detach : goal.returns-in-Detach
unfolding row_of
returns-in-Detach c = c.naming-in-Detach.ensures ∙ sym (ap row_of c.in-Detach.is)

pub returns-in-Copy : goal.returns-in-Copy
unfolding row_of
returns-in-Copy c = c.naming-in-Copy.ensures ∙ sym (ap row_of c.in-Copy.is)

pub returns-in-OpenDesk : goal.returns-in-OpenDesk
unfolding row_of
returns-in-OpenDesk c = c.on_page-in-OpenDesk.ensures ∙ sym (ap row_of c.in-OpenDesk.is)

pub returns-in-SaveDesk : goal.returns-in-SaveDesk
unfolding row_of
returns-in-SaveDesk c = c.naming-in-SaveDesk.ensures ∙ sym (ap row_of c.in-SaveDesk.is)

pub returns-in-ShutDesk : goal.returns-in-ShutDesk
unfolding row_of
returns-in-ShutDesk c = c.naming-in-ShutDesk.ensures ∙ sym (ap row_of c.in-ShutDesk.is)

pub returns-in-File : goal.returns-in-File
unfolding row_of
returns-in-File c = c.naming-in-File.ensures ∙ sym (ap row_of c.in-File.is)

pub returns-in-Publish : goal.returns-in-Publish
unfolding row_of
returns-in-Publish c = c.on_page-in-Publish.ensures ∙ sym (ap row_of c.in-Publish.is)

pub returns-in-Unpublish : goal.returns-in-Unpublish
unfolding row_of
returns-in-Unpublish c = c.on_page-in-Unpublish.ensures ∙ sym (ap row_of c.in-Unpublish.is)

pub returns-in-Unschedule : goal.returns-in-Unschedule
unfolding row_of
returns-in-Unschedule c = c.on_page-in-Unschedule.ensures ∙ sym (ap row_of c.in-Unschedule.is)

pub returns-in-Lock : goal.returns-in-Lock
unfolding row_of
returns-in-Lock c = c.on_page-in-Lock.ensures ∙ sym (ap row_of c.in-Lock.is)

pub returns-in-Unlock : goal.returns-in-Unlock
unfolding row_of
returns-in-Unlock c = c.on_page-in-Unlock.ensures ∙ sym (ap row_of c.in-Unlock.is)

pub returns-in-Purge : goal.returns-in-Purge
unfolding row_of
returns-in-Purge c = c.on_page-in-Purge.ensures ∙ sym (ap row_of c.in-Purge.is)

pub returns-in-DefineTask : goal.returns-in-DefineTask
unfolding row_of
returns-in-DefineTask c = c.naming-in-DefineTask.ensures ∙ sym (ap row_of c.in-DefineTask.is)

pub returns-in-DefineWorkflow : goal.returns-in-DefineWorkflow
unfolding row_of
returns-in-DefineWorkflow c = c.naming-in-DefineWorkflow.ensures ∙ sym (ap row_of c.in-DefineWorkflow.is)

pub returns-in-Assign : goal.returns-in-Assign
unfolding row_of
returns-in-Assign c = c.naming-in-Assign.ensures ∙ sym (ap row_of c.in-Assign.is)

pub returns-in-Submit : goal.returns-in-Submit
unfolding row_of
returns-in-Submit c = c.on_page-in-Submit.ensures ∙ sym (ap row_of c.in-Submit.is)

pub returns-in-Approve : goal.returns-in-Approve
unfolding row_of
returns-in-Approve c = c.on_page-in-Approve.ensures ∙ sym (ap row_of c.in-Approve.is)

pub returns-in-Reject : goal.returns-in-Reject
unfolding row_of
returns-in-Reject c = c.on_page-in-Reject.ensures ∙ sym (ap row_of c.in-Reject.is)

pub returns-in-Cancel : goal.returns-in-Cancel
unfolding row_of
returns-in-Cancel c = c.on_page-in-Cancel.ensures ∙ sym (ap row_of c.in-Cancel.is)

pub returns-in-DefineUser : goal.returns-in-DefineUser
unfolding row_of
returns-in-DefineUser c = c.naming-in-DefineUser.ensures ∙ sym (ap row_of c.in-DefineUser.is)

pub returns-in-DefineGroup : goal.returns-in-DefineGroup
unfolding row_of
returns-in-DefineGroup c = c.naming-in-DefineGroup.ensures ∙ sym (ap row_of c.in-DefineGroup.is)

pub returns-in-Member : goal.returns-in-Member
unfolding row_of
returns-in-Member c = c.naming-in-Member.ensures ∙ sym (ap row_of c.in-Member.is)

pub returns-in-Grant : goal.returns-in-Grant
unfolding row_of
returns-in-Grant c = c.naming-in-Grant.ensures ∙ sym (ap row_of c.in-Grant.is)

pub returns-in-Tick : goal.returns-in-Tick
unfolding row_of
returns-in-Tick c = c.naming-in-Tick.ensures ∙ sym (ap row_of c.in-Tick.is)

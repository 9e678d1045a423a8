-- Each command is planned by the function for it.
use Rattle.std.proofs.Common.{sym, subst}
use Rattle.std.specs.Option.{option_copied}
use Rattle.site_types.specs.declared.command.Command.{Command}
use Rattle.site_part.specs.Plans.{Prepares}
use Rattle.moderating.specs.Asked.{IsAsked}
use Rattle.flow_edits.proofs.prepare.plan_passed.Goals as goal

pub returns-in-OpenDesk-clause-plan : goal.returns-in-OpenDesk-clause-plan
returns-in-OpenDesk-clause-plan c = λ world asked.
    subst (λ (command : Command). Prepares world (option_copied c.args.desk) c.args.now
    c.args.caller command c.plan_opening.new.part c.plan_opening.result) (sym c.in-OpenDesk.is)
    (c.plan_opening.ensures.plan world (option_copied c.args.desk)
    (subst (IsAsked c.args.part.now world (option_copied c.args.desk) c.args.caller) c.in-OpenDesk.is
    asked))

pub returns-in-ShutDesk-clause-plan : goal.returns-in-ShutDesk-clause-plan
returns-in-ShutDesk-clause-plan c = λ world asked.
    subst (λ (command : Command). Prepares world (option_copied c.args.desk) c.args.now
    c.args.caller command c.args.part.now c.plan_shutting.result) (sym c.in-ShutDesk.is)
    (c.plan_shutting.ensures world c.args.caller
    (subst (IsAsked c.args.part.now world (option_copied c.args.desk) c.args.caller) c.in-ShutDesk.is
    asked))

pub returns-in-File-clause-plan : goal.returns-in-File-clause-plan
returns-in-File-clause-plan c = λ world asked.
    subst (λ (command : Command). Prepares world (option_copied c.args.desk) c.args.now
    c.args.caller command c.plan_filing.new.part c.plan_filing.result) (sym c.in-File.is)
    (c.plan_filing.ensures.plan world
    (subst (IsAsked c.args.part.now world (option_copied c.args.desk) c.args.caller) c.in-File.is
    asked))

pub returns-in-Publish-clause-plan : goal.returns-in-Publish-clause-plan
returns-in-Publish-clause-plan c = λ world asked.
    subst (λ (command : Command). Prepares world (option_copied c.args.desk) c.args.now
    c.args.caller command c.args.part.now c.plan_publish.result) (sym c.in-Publish.is)
    (c.plan_publish.ensures world (option_copied c.args.desk) c.args.caller
    (subst (IsAsked c.args.part.now world (option_copied c.args.desk) c.args.caller) c.in-Publish.is
    asked))

pub returns-in-Unpublish-clause-plan : goal.returns-in-Unpublish-clause-plan
returns-in-Unpublish-clause-plan c = λ world asked.
    subst (λ (command : Command). Prepares world (option_copied c.args.desk) c.args.now
    c.args.caller command c.args.part.now c.plan_unpublish.result) (sym c.in-Unpublish.is)
    (c.plan_unpublish.ensures world (option_copied c.args.desk) c.args.caller
    (subst (IsAsked c.args.part.now world (option_copied c.args.desk) c.args.caller) c.in-Unpublish.is
    asked))

pub returns-in-Lock-clause-plan : goal.returns-in-Lock-clause-plan
returns-in-Lock-clause-plan c = λ world asked.
    subst (λ (command : Command). Prepares world (option_copied c.args.desk) c.args.now
    c.args.caller command c.args.part.now c.plan_lock.result) (sym c.in-Lock.is)
    (c.plan_lock.ensures world (option_copied c.args.desk)
    (subst (IsAsked c.args.part.now world (option_copied c.args.desk) c.args.caller) c.in-Lock.is
    asked))

pub returns-in-Unlock-clause-plan : goal.returns-in-Unlock-clause-plan
returns-in-Unlock-clause-plan c = λ world asked.
    subst (λ (command : Command). Prepares world (option_copied c.args.desk) c.args.now
    c.args.caller command c.args.part.now c.plan_unlock.result) (sym c.in-Unlock.is)
    (c.plan_unlock.ensures world (option_copied c.args.desk) c.args.caller
    (subst (IsAsked c.args.part.now world (option_copied c.args.desk) c.args.caller) c.in-Unlock.is
    asked))

pub returns-in-Purge-clause-plan : goal.returns-in-Purge-clause-plan
returns-in-Purge-clause-plan c = λ world asked.
    subst (λ (command : Command). Prepares world (option_copied c.args.desk) c.args.now
    c.args.caller command c.args.part.now c.plan_purge.result) (sym c.in-Purge.is)
    (c.plan_purge.ensures world (option_copied c.args.desk) c.args.caller
    (subst (IsAsked c.args.part.now world (option_copied c.args.desk) c.args.caller) c.in-Purge.is
    asked))

pub returns-in-DefineTask-clause-plan : goal.returns-in-DefineTask-clause-plan
returns-in-DefineTask-clause-plan c = λ world asked.
    subst (λ (command : Command). Prepares world (option_copied c.args.desk) c.args.now
    c.args.caller command c.plan_task.new.part c.plan_task.result) (sym c.in-DefineTask.is)
    (c.plan_task.ensures.plan world (option_copied c.args.desk) c.args.caller
    (subst (IsAsked c.args.part.now world (option_copied c.args.desk) c.args.caller) c.in-DefineTask.is
    asked))

pub returns-in-DefineWorkflow-clause-plan : goal.returns-in-DefineWorkflow-clause-plan
returns-in-DefineWorkflow-clause-plan c = λ world asked.
    subst (λ (command : Command). Prepares world (option_copied c.args.desk) c.args.now
    c.args.caller command c.plan_workflow.new.part c.plan_workflow.result) (sym c.in-DefineWorkflow.is)
    (c.plan_workflow.ensures.plan world (option_copied c.args.desk) c.args.caller
    (subst (IsAsked c.args.part.now world (option_copied c.args.desk) c.args.caller) c.in-DefineWorkflow.is
    asked))

pub returns-in-Assign-clause-plan : goal.returns-in-Assign-clause-plan
returns-in-Assign-clause-plan c = λ world asked.
    subst (λ (command : Command). Prepares world (option_copied c.args.desk) c.args.now
    c.args.caller command c.args.part.now c.plan_assignment.result) (sym c.in-Assign.is)
    (c.plan_assignment.ensures world (option_copied c.args.desk) c.args.caller
    (subst (IsAsked c.args.part.now world (option_copied c.args.desk) c.args.caller) c.in-Assign.is
    asked))

pub returns-in-Submit-clause-plan : goal.returns-in-Submit-clause-plan
returns-in-Submit-clause-plan c = λ world asked.
    subst (λ (command : Command). Prepares world (option_copied c.args.desk) c.args.now
    c.args.caller command c.args.part.now c.plan_submission.result) (sym c.in-Submit.is)
    (c.plan_submission.ensures world (option_copied c.args.desk)
    (subst (IsAsked c.args.part.now world (option_copied c.args.desk) c.args.caller) c.in-Submit.is
    asked))

pub returns-in-Approve-clause-plan : goal.returns-in-Approve-clause-plan
returns-in-Approve-clause-plan c = λ world asked.
    subst (λ (command : Command). Prepares world (option_copied c.args.desk) c.args.now
    c.args.caller command c.args.part.now c.plan_approval.result) (sym c.in-Approve.is)
    (c.plan_approval.ensures world (option_copied c.args.desk) c.args.caller
    (subst (IsAsked c.args.part.now world (option_copied c.args.desk) c.args.caller) c.in-Approve.is
    asked))

pub returns-in-Reject-clause-plan : goal.returns-in-Reject-clause-plan
returns-in-Reject-clause-plan c = λ world asked.
    subst (λ (command : Command). Prepares world (option_copied c.args.desk) c.args.now
    c.args.caller command c.args.part.now c.plan_rejection.result) (sym c.in-Reject.is)
    (c.plan_rejection.ensures world (option_copied c.args.desk) c.args.caller
    (subst (IsAsked c.args.part.now world (option_copied c.args.desk) c.args.caller) c.in-Reject.is
    asked))

pub returns-in-Cancel-clause-plan : goal.returns-in-Cancel-clause-plan
returns-in-Cancel-clause-plan c = λ world asked.
    subst (λ (command : Command). Prepares world (option_copied c.args.desk) c.args.now
    c.args.caller command c.args.part.now c.plan_cancelling.result) (sym c.in-Cancel.is)
    (c.plan_cancelling.ensures world (option_copied c.args.desk) c.args.caller
    (subst (IsAsked c.args.part.now world (option_copied c.args.desk) c.args.caller) c.in-Cancel.is
    asked))

pub returns-in-DefineUser-clause-plan : goal.returns-in-DefineUser-clause-plan
returns-in-DefineUser-clause-plan c = λ world asked.
    subst (λ (command : Command). Prepares world (option_copied c.args.desk) c.args.now
    c.args.caller command c.plan_user.new.part c.plan_user.result) (sym c.in-DefineUser.is)
    (c.plan_user.ensures.plan world (option_copied c.args.desk) c.args.caller
    (subst (IsAsked c.args.part.now world (option_copied c.args.desk) c.args.caller) c.in-DefineUser.is
    asked))

pub returns-in-DefineGroup-clause-plan : goal.returns-in-DefineGroup-clause-plan
returns-in-DefineGroup-clause-plan c = λ world asked.
    subst (λ (command : Command). Prepares world (option_copied c.args.desk) c.args.now
    c.args.caller command c.plan_group.new.part c.plan_group.result) (sym c.in-DefineGroup.is)
    (c.plan_group.ensures.plan world (option_copied c.args.desk) c.args.caller
    (subst (IsAsked c.args.part.now world (option_copied c.args.desk) c.args.caller) c.in-DefineGroup.is
    asked))

pub returns-in-Member-clause-plan : goal.returns-in-Member-clause-plan
returns-in-Member-clause-plan c = λ world asked.
    subst (λ (command : Command). Prepares world (option_copied c.args.desk) c.args.now
    c.args.caller command c.plan_member.new.part c.plan_member.result) (sym c.in-Member.is)
    (c.plan_member.ensures.plan world (option_copied c.args.desk) c.args.caller
    (subst (IsAsked c.args.part.now world (option_copied c.args.desk) c.args.caller) c.in-Member.is
    asked))

pub returns-in-Grant-clause-plan : goal.returns-in-Grant-clause-plan
returns-in-Grant-clause-plan c = λ world asked.
    subst (λ (command : Command). Prepares world (option_copied c.args.desk) c.args.now
    c.args.caller command c.plan_grant.new.part c.plan_grant.result) (sym c.in-Grant.is)
    (c.plan_grant.ensures.plan world (option_copied c.args.desk) c.args.caller
    (subst (IsAsked c.args.part.now world (option_copied c.args.desk) c.args.caller) c.in-Grant.is
    asked))

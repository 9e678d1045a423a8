-- Each command is planned by the function for it.
use Rattle.std.proofs.Common.{sym, subst}
use Rattle.site_types.specs.declared.command.Command.{Command}
use Rattle.site_part.specs.Plans.{Prepares}
use Rattle.new_pages.specs.Plans.{IsAsked}
use Rattle.tree_edits.proofs.prepare.plan_passed.Goals as goal

pub returns-in-Create-clause-plan : goal.returns-in-Create-clause-plan
returns-in-Create-clause-plan c = λ world desk asked.
    subst (λ (command : Command). Prepares world desk c.args.now c.args.caller command
    c.plan_creation.new.part c.plan_creation.result) (sym c.in-Create.is)
    (c.plan_creation.ensures.plan world desk
    (subst (IsAsked c.args.part.now world c.args.caller) c.in-Create.is asked))

pub returns-in-Move-clause-plan : goal.returns-in-Move-clause-plan
returns-in-Move-clause-plan c = λ world desk asked.
    subst (λ (command : Command). Prepares world desk c.args.now c.args.caller command
    c.plan_moving.new.part c.plan_moving.result) (sym c.in-Move.is)
    (c.plan_moving.ensures.plan world desk c.args.caller
    (subst (IsAsked c.args.part.now world c.args.caller) c.in-Move.is asked))

pub returns-in-Delete-clause-plan : goal.returns-in-Delete-clause-plan
returns-in-Delete-clause-plan c = λ world desk asked.
    subst (λ (command : Command). Prepares world desk c.args.now c.args.caller command
    c.plan_deletion.new.part c.plan_deletion.result) (sym c.in-Delete.is)
    (c.plan_deletion.ensures.plan world desk
    (subst (IsAsked c.args.part.now world c.args.caller) c.in-Delete.is asked))

pub returns-in-SetSlug-clause-plan : goal.returns-in-SetSlug-clause-plan
returns-in-SetSlug-clause-plan c = λ world desk asked.
    subst (λ (command : Command). Prepares world desk c.args.now c.args.caller command
    c.plan_renaming.new.part c.plan_renaming.result) (sym c.in-SetSlug.is)
    (c.plan_renaming.ensures.plan world desk c.args.caller
    (subst (IsAsked c.args.part.now world c.args.caller) c.in-SetSlug.is asked))

pub returns-in-Alias-clause-plan : goal.returns-in-Alias-clause-plan
returns-in-Alias-clause-plan c = λ world desk asked.
    subst (λ (command : Command). Prepares world desk c.args.now c.args.caller command
    c.plan_aliasing.new.part c.plan_aliasing.result) (sym c.in-Alias.is)
    (c.plan_aliasing.ensures.plan world desk
    (subst (IsAsked c.args.part.now world c.args.caller) c.in-Alias.is asked))

pub returns-in-Detach-clause-plan : goal.returns-in-Detach-clause-plan
returns-in-Detach-clause-plan c = λ world desk asked.
    subst (λ (command : Command). Prepares world desk c.args.now c.args.caller command
    c.plan_detaching.new.part c.plan_detaching.result) (sym c.in-Detach.is)
    (c.plan_detaching.ensures.plan world desk
    (subst (IsAsked c.args.part.now world c.args.caller) c.in-Detach.is asked))

pub returns-in-Copy-clause-plan : goal.returns-in-Copy-clause-plan
returns-in-Copy-clause-plan c = λ world desk asked.
    subst (λ (command : Command). Prepares world desk c.args.now c.args.caller command
    c.plan_copying.new.part c.plan_copying.result) (sym c.in-Copy.is)
    (c.plan_copying.ensures.plan world desk
    (subst (IsAsked c.args.part.now world c.args.caller) c.in-Copy.is asked))

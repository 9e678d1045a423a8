-- A page is planned, room is made, and the plan is built.
use Rattle.std.proofs.Common.{max, ap, ◌∙◌}
use Rattle.site_types.specs.declared.command.Command.TheVariants.{Create}
use Rattle.site_model.specs.Create.{create_rules}
use Rattle.new_pages.specs.Making.{IsNewPage}
use Rattle.new_pages.proofs.AskedLemmas.{own_refused}
use Rattle.new_pages.proofs.CommandLemmas.{create_own}
use Rattle.new_pages.proofs.CreationLemmas.{creation_planned}
use Rattle.new_pages.proofs.creation.plan_creation.Goals as goal

pub returns-in-Err-clause-plan : goal.returns-in-Err-clause-plan
returns-in-Err-clause-plan c = λ world desk asked.
    own_refused c.args.part.now c.args.part.now world desk c.args.now c.args.caller
    (Create c.args.parent c.args.slug.now c.args.content.now) asked
    (create_rules world c.args.now c.args.caller c.args.parent c.args.slug.now c.args.content.now)
    (create_own world desk c.args.now c.args.caller c.args.parent c.args.slug.now
    c.args.content.now)
    (IsNewPage world c.args.parent c.args.slug.now) c.in-Err.fault (c.in-Err.ensures world asked)

pub returns-in-Ok-new_plan-clause-plan : goal.returns-in-Ok-new_plan-clause-plan
returns-in-Ok-new_plan-clause-plan c = λ world desk asked.
    let made = c.in-Ok.ensures world asked in
    creation_planned c.args.part.now world desk c.args.now c.args.caller c.args.parent
    c.args.slug.now c.args.content.now asked c.later.ensures.moment c.len-len.ensures.pages
    c.in-Ok.made made.0 made.1 c.make_room.new.part
    c.later.result c.in-Ok-new_plan.plan c.make_room.ensures.same
    c.in-Ok-make_room.ensures.pages c.in-Ok-make_room.ensures.revisions
    (c.later.ensures.value ∙ ap (λ t. max t c.args.now) c.make_room.ensures.same.time)
    c.in-Ok-new_plan.ensures

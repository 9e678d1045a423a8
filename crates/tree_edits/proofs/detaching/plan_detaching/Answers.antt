-- The alias is found, room is made, and the plan is built.
use Rattle.std.proofs.Common.{refl}
use Rattle.site_types.specs.declared.command.Command.TheVariants.{Detach}
use Rattle.site_model.specs.World as worlds
use Rattle.site_model.specs.Aliases.{detach_rules}
use Rattle.tree_edits.specs.Leaving.{IsDetachedAt}
use Rattle.new_pages.proofs.AskedLemmas.{own_refused}
use Rattle.new_pages.proofs.CommandLemmas.{detach_own}
use Rattle.tree_edits.proofs.DetachLemmas.{detach_planned}
use Rattle.tree_edits.proofs.detaching.plan_detaching.Goals as goal

pub returns-in-Err-clause-plan : goal.returns-in-Err-clause-plan
returns-in-Err-clause-plan c = λ world desk asked.
    own_refused c.args.part.now c.args.part.now world desk c.args.now c.args.caller
    (Detach c.args.page) asked (detach_rules world c.args.now c.args.caller c.args.page)
    (detach_own world desk c.args.now c.args.caller c.args.page)
    (IsDetachedAt world (worlds.time_at world c.args.now) world.next_revision c.args.caller
    c.args.page) c.in-Err.fault (c.in-Err.ensures world asked)

pub returns-in-Ok-detaching_plan-clause-plan : goal.returns-in-Ok-detaching_plan-clause-plan
returns-in-Ok-detaching_plan-clause-plan c = λ world desk asked.
    let made = c.in-Ok.ensures world asked in
    detach_planned c.args.part.now world desk c.args.now c.args.caller c.args.page asked
    c.in-Ok.made made.0 made.1 _ _ c.in-Ok-detaching_plan.plan c.make_room.ensures.same
    c.in-Ok-make_room.ensures.revisions refl c.in-Ok-detaching_plan.ensures

-- What is told of the tree part is told of the site, and what is told of a text of the command that
-- saves it.
use Rattle.std.proofs.Common.{sym, subst}
use Rattle.site_types.specs.declared.command.Command.{Command}
use Rattle.site_model.specs.Desks.{desk_page}
use Rattle.site_core.specs.Standing.{Prepares}
use Rattle.site_core.specs.declared.state.Core.{Core}
use Rattle.site_core.proofs.GroupLemmas.{saves_none}
use Rattle.site_core.proofs.PrepareLemmas.{part_ready, own_fits, prepares, prepares_saving}
use Rattle.site_core.proofs.state.Core.prepare.Goals as goal

pub returns-in-SaveDesk-clause-plan : goal.returns-in-SaveDesk-clause-plan
returns-in-SaveDesk-clause-plan c = λ world ready fits.
    subst (λ (command : Command). Prepares world c.args.now c.args.caller command c.args.self.now
    c.plan_saving.result)
    (sym c.in-SaveDesk.is)
    (prepares_saving c.args.self.now world ready c.args.now c.args.caller _ _ c.plan_saving.result
    c.plan_saving.ensures)

pub prepare_step-requires-clause-other : goal.prepare_step-requires-clause-other
prepare_step-requires-clause-other c = saves_none c.args.command.now c.in_default.not-SaveDesk

pub prepare_step-requires-clause-ready : goal.prepare_step-requires-clause-ready
prepare_step-requires-clause-ready c = (
  c.requires.0.part,
  part_ready c.args.self.now c.requires.0 c.requires.1,
  c.requires.2,
  own_fits c.args.self.now c.requires.0 c.requires.1 c.args.caller (desk_page c.args.command.now),
)

pub returns-in_default-clause-plan : goal.returns-in_default-clause-plan
returns-in_default-clause-plan c = λ world ready fits.
    let after : Core = record { tree = c.prepare_step.new.tree; desks = c.prepare_step.new.desks } in
    prepares c.args.self.now world ready after c.args.now c.args.caller c.args.command.now
    (saves_none c.args.command.now c.in_default.not-SaveDesk)
    (record { tree = c.prepare_step.ensures.same; desks = c.prepare_step.ensures.lists })
    c.prepare_step.result c.prepare_step.ensures.room
    (c.prepare_step.ensures.in_step world.part (part_ready c.args.self.now world ready) fits
    (own_fits c.args.self.now world ready c.args.caller (desk_page c.args.command.now)))
    (c.prepare_step.ensures.links world.part (part_ready c.args.self.now world ready) fits
    (own_fits c.args.self.now world ready c.args.caller (desk_page c.args.command.now)))
    (c.prepare_step.ensures.plan world.part (part_ready c.args.self.now world ready) fits
    (own_fits c.args.self.now world ready c.args.caller (desk_page c.args.command.now)))

-- The text that the command looks at is the one that is kept.
use Rattle.std.proofs.Common.{sym, subst}
use Rattle.site_model.specs.Desks.{desk_page}
use Rattle.site_model.specs.Laws.{FitsDesk}
use Rattle.site_core.proofs.asking.prepare_step.Goals as goal

pub prepare-requires-clause-ready : goal.prepare-requires-clause-ready
prepare-requires-clause-ready c = (
  c.requires.ready.0,
  c.requires.ready.1,
  c.requires.ready.2,
  subst (FitsDesk c.requires.ready.0 c.args.caller (desk_page c.args.command.now))
      (sym c.own_desk-desk.ensures) c.requires.ready.3,
)

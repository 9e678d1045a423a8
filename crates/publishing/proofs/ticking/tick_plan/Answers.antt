-- The pairs that are due are those of what is due of the rows.
use Rattle.std.proofs.Common.{ap, ◌∙◌}
use Rattle.publishing.specs.Ticks.{pages_in}
use Rattle.publishing.proofs.TickLemmas.{tick_told}
use Rattle.publishing.proofs.ticking.tick_plan.Goals as goal

pub returns : goal.returns
returns c =
    tick_told c.args.times.now c.args.rows.now.pages c.args.shelf.now.revisions c.args.t c.requires
    c.len.ensures.pages c.len-2.ensures.table c.len-3.ensures.table _ _ _
    (c.in_ok-unpublished.ensures ∙ ap pages_in c.due.ensures) c.due-2.ensures c.plan_of.ensures

-- The pairs that are due are those of what is due of the rows.
use Rattle.std.proofs.Common.{◌∙◌}
use Rattle.publishing.specs.Ticked.{ticked_body}
use Rattle.publishing.proofs.TickLemmas.{bodies_told}
use Rattle.publishing.proofs.ticked.tick_bodies.Goals as goal

pub returns : goal.returns
returns c =
    c.from_vec.ensures
    ∙ bodies_told c.args.times.now c.args.rows.now.pages c.args.shelf.now.revisions c.args.t c.requires
    c.len.ensures.pages c.len-2.ensures.table c.len-3.ensures.table
    (ticked_body c.args.shelf.now.revisions c.args.t) c.due.result.now c.due-2.result.now
    c.new-bodies.result.items c.put_ticked.new.bodies.items _ c.due.ensures c.due-2.ensures
    c.new-bodies.ensures.items c.in_ok-put_ticked.ensures c.in_ok-put_ticked-2.ensures

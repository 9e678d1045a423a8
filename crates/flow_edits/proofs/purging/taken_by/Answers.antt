-- One by one.
use Rattle.std.proofs.Common.{ap, ◌∙◌, arith}
use Rattle.flow_edits.specs.Plans.{counted}
use Rattle.flow_edits.proofs.Counting.{count_next, count_fits}
use Rattle.flow_edits.proofs.purging.taken_by.Goals as goal

pub overflow_add-count : goal.overflow_add-count
overflow_add-count c =
    let most = count_fits c.args.purge.now c.args.shelf.now.revisions _ _ _ c.len-place-end.ensures.rises
    c.loop-place.invariant
    (c.counted-count.ensures ∙ ap (counted c.args.purge.now) c.at.ensures) in
    omega (arith, most)

pub loop-place-preserved : goal.loop-place-preserved
loop-place-preserved c =
    count_next c.args.purge.now c.args.shelf.now.revisions _ _ _ c.loop-place.invariant
    (c.counted-count.ensures ∙ ap (counted c.args.purge.now) c.at.ensures)

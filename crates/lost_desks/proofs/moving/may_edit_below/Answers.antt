-- What is held at the parent and granted on the way decides.
use Rattle.lost_desks.proofs.BelowLemmas.{edits_if}
use Rattle.lost_desks.proofs.moving.may_edit_below.Goals as goal

pub returns : goal.returns
returns c world has within kept =
    rw (c.eq-own.ensures)
    (edits_if world c.args.top c.args.parent c.args.page c.args.user c.args.body.now c.held-held.result
    c.granted_from-granted.result c.moderates-asked.result kept
    (c.moderates-asked.ensures world has.lists has.flows)
    (c.held-held.ensures world has.pages has.lists)
    (c.granted_from-granted.ensures world has within))

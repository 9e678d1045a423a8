-- The desks within the page's pages end.
use Rattle.lost_desks.proofs.StayLemmas.{has_desks}
use Rattle.lost_desks.proofs.deletion.lost_by_deletion.Goals as goal

pub returns : goal.returns
returns c world ready = c.lost_desks.ensures world (has_desks c.args.part.now world ready)

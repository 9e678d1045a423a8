-- The desks within the page's pages end whose users may not edit there below the parent.
use Rattle.lost_desks.proofs.StayLemmas.{has_desks}
use Rattle.lost_desks.proofs.moving.lost_by_move.Goals as goal

pub returns : goal.returns
returns c world ready = c.lost_desks.ensures world (has_desks c.args.part.now world ready)

-- The law holds of each tree of pages.
use Rattle.path_moves.proofs.PlaceLemmas.{before_is}
use Rattle.path_moves.proofs.laws.graft_before_raises.Goals as goal

pub returns : goal.returns
returns c = before_is

-- The law holds of each tree of pages.
use Rattle.path_moves.proofs.PlaceLemmas.{first_is}
use Rattle.path_moves.proofs.laws.graft_at_first_raises.Goals as goal

pub returns : goal.returns
returns c = first_is

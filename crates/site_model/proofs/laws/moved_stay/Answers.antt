-- After a move, a desk on a moved page stays by what its user may do below the new parent.
use Rattle.site_model.proofs.LosingMoved.{moved_stay}
use Rattle.site_model.proofs.laws.moved_stay.Goals as goal

pub returns : goal.returns
returns c = moved_stay

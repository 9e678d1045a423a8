-- The rows of the kids are filtered.
use Rattle.sight_model.proofs.KidLemmas.{kids_are_live}
use Rattle.sight_model.proofs.laws.kids_are_live.Goals as goal

pub returns : goal.returns
returns c = kids_are_live

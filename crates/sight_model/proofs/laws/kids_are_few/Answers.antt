-- The first MAX_KIDS are taken.
use Rattle.sight_model.proofs.KidLemmas.{kids_are_few}
use Rattle.sight_model.proofs.laws.kids_are_few.Goals as goal

pub returns : goal.returns
returns c = kids_are_few

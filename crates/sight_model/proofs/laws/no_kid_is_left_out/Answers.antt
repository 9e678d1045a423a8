-- Where fewer are taken, all are.
use Rattle.sight_model.proofs.KidLemmas.{no_kid_is_left_out}
use Rattle.sight_model.proofs.laws.no_kid_is_left_out.Goals as goal

pub returns : goal.returns
returns c = no_kid_is_left_out

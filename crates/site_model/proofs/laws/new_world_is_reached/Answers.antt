-- The root stands alone, and the lists are empty.
use Rattle.site_model.proofs.StartLemmas.{new_world_is_reached}
use Rattle.site_model.proofs.laws.new_world_is_reached.Goals as goal

pub returns : goal.returns
returns c = new_world_is_reached

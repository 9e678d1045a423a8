-- A grant to one of the groups permits what it gives.
use Rattle.site_model.proofs.RightLemmas.{held_by_walks}
use Rattle.site_model.proofs.laws.held_by_walks.Goals as goal

pub returns : goal.returns
returns c = held_by_walks

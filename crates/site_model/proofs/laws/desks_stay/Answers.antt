-- What does not stay is among the desks that end.
use Rattle.site_model.proofs.DeskLemmas.{desks_stay}
use Rattle.site_model.proofs.laws.desks_stay.Goals as goal

pub returns : goal.returns
returns c = desks_stay

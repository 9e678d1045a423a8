-- The lists are those that they were, and only the graft changes rows.
use Rattle.site_model.proofs.CreateLemmas.{creation_keeps_the_rest}
use Rattle.site_model.proofs.laws.creation_keeps_the_rest.Goals as goal

pub returns : goal.returns
returns c = creation_keeps_the_rest

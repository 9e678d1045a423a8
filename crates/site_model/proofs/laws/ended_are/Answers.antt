-- Every command ends the caller's own desk, where it shuts it, and suspects that do not stay.
use Rattle.site_model.proofs.LosingSteps.{ended_are}
use Rattle.site_model.proofs.laws.ended_are.Goals as goal

pub returns : goal.returns
returns c = ended_are

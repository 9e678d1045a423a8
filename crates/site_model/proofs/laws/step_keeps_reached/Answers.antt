-- The step of the tree part does, and no desk is open.
use Rattle.site_model.proofs.ReachedSound.{step_keeps_reached}
use Rattle.site_model.proofs.laws.step_keeps_reached.Goals as goal

pub returns : goal.returns
returns c = step_keeps_reached

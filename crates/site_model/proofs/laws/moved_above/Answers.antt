-- The walk to a moved page leads over its new parent, and then on as before.
use Rattle.site_model.proofs.LosingMoved.{moved_above}
use Rattle.site_model.proofs.laws.moved_above.Goals as goal

pub returns : goal.returns
returns c = moved_above

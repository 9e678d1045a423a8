-- In a sound world the nearest workflow of a page is there.
use Rattle.site_model.proofs.FlowFacts.{nearest_is_given}
use Rattle.site_model.proofs.laws.nearest_is_given.Goals as goal

pub returns : goal.returns
returns c = nearest_is_given

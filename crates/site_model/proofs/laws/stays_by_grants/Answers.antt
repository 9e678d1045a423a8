-- After a grant changed, a desk stays by the grants alone.
use Rattle.site_model.proofs.LosingFacts.{stays_by_grants}
use Rattle.site_model.proofs.laws.stays_by_grants.Goals as goal

pub returns : goal.returns
returns c = stays_by_grants

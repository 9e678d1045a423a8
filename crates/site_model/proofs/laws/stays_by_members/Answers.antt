-- After a membership changed, a desk stays by the memberships alone.
use Rattle.site_model.proofs.LosingFacts.{stays_by_members}
use Rattle.site_model.proofs.laws.stays_by_members.Goals as goal

pub returns : goal.returns
returns c = stays_by_members

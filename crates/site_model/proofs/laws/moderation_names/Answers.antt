-- In a sound world the moderation of a page names what is there.
use Rattle.site_model.proofs.FlowFacts.{moderation_names}
use Rattle.site_model.proofs.laws.moderation_names.Goals as goal

pub returns : goal.returns
returns c = moderation_names

-- To publish a page ends the desk on it, if it does not stay without the moderation.
use Rattle.site_model.proofs.LosingAnswers.{publish_ends}
use Rattle.site_model.proofs.laws.publish_ends.Goals as goal

pub returns : goal.returns
returns c = publish_ends

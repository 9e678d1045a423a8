-- If the first six rules do not refuse a submission, a moderation begins or goes on.
use Rattle.site_model.proofs.FlowFacts.{submission_has_place}
use Rattle.site_model.proofs.laws.submission_has_place.Goals as goal

pub returns : goal.returns
returns c = submission_has_place

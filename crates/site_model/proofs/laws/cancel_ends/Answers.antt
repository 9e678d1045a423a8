-- So does a moderation that is given up.
use Rattle.site_model.proofs.LosingAnswers.{cancel_ends}
use Rattle.site_model.proofs.laws.cancel_ends.Goals as goal

pub returns : goal.returns
returns c = cancel_ends

-- So does a rejection.
use Rattle.site_model.proofs.LosingAnswers.{reject_ends}
use Rattle.site_model.proofs.laws.reject_ends.Goals as goal

pub returns : goal.returns
returns c = reject_ends

-- So does an approval.
use Rattle.site_model.proofs.LosingAnswers.{approve_ends}
use Rattle.site_model.proofs.laws.approve_ends.Goals as goal

pub returns : goal.returns
returns c = approve_ends

-- A submission ends the desk on its page, if it does not stay with what is left of the moderation.
use Rattle.site_model.proofs.LosingAnswers.{submit_ends}
use Rattle.site_model.proofs.laws.submit_ends.Goals as goal

pub returns : goal.returns
returns c = submit_ends

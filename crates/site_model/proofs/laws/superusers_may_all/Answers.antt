-- No other rule says that a need is not met.
use Rattle.site_model.proofs.SuperLemmas.{superusers_may_all}
use Rattle.site_model.proofs.laws.superusers_may_all.Goals as goal

pub returns : goal.returns
returns c = superusers_may_all

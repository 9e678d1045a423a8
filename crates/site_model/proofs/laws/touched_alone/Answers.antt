-- A stripe after an effect is made of that stripe alone.
use Rattle.site_model.proofs.AloneLemmas.{touched_alone}
use Rattle.site_model.proofs.laws.touched_alone.Goals as goal

pub returns : goal.returns
returns c = touched_alone

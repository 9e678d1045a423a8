-- A step is its rules and its effect, with the desks that end.
use Rattle.site_model.proofs.SettledLemmas.{step_is_settled}
use Rattle.site_model.proofs.laws.step_is_settled.Goals as goal

pub returns : goal.returns
returns c = step_is_settled

-- The two fronts are the same, rule by rule.
use Rattle.http_model.proofs.FrontLemmas.{one_front}
use Rattle.http_model.proofs.laws.one_front.Goals as goal

pub returns : goal.returns
returns c = one_front

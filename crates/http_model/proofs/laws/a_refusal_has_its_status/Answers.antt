-- By the rule that refuses.
use Rattle.http_model.proofs.BoundLemmas.{a_refusal_has_its_status}
use Rattle.http_model.proofs.laws.a_refusal_has_its_status.Goals as goal

pub returns : goal.returns
returns c = a_refusal_has_its_status

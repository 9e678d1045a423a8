-- The head is found within its limit, and the body is within its own.
use Rattle.http_model.proofs.BoundLemmas.{part_is_short}
use Rattle.http_model.proofs.laws.part_is_short.Goals as goal

pub returns : goal.returns
returns c = part_is_short

-- The head alone has two bytes.
use Rattle.http_model.proofs.BoundLemmas.{a_whole_takes_bytes}
use Rattle.http_model.proofs.laws.a_whole_takes_bytes.Goals as goal

pub returns : goal.returns
returns c = a_whole_takes_bytes

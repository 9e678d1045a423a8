-- The four ends exclude each other.
use Rattle.request_loop.proofs.EndLemmas.{one_end}
use Rattle.request_loop.proofs.laws.one_end.Goals as goal

pub returns : goal.returns
returns c = one_end

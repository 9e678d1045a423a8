-- What is there after the pairs of a second number were taken out.
use Rattle.link_index.proofs.SetLemmas.{has_without}
use Rattle.link_index.proofs.laws.second_is_gone.Goals as goal

pub returns : goal.returns
returns c = λ gone first second pairs. has_without gone first second pairs

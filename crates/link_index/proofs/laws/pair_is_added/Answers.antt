-- What is there after a pair was put in.
use Rattle.link_index.proofs.PairLemmas.{has_put}
use Rattle.link_index.proofs.laws.pair_is_added.Goals as goal

pub returns : goal.returns
returns c = λ new first second pairs. has_put new first second pairs

-- What is there after a second number got other firsts.
use Rattle.link_index.proofs.LawLemmas.{has_own}
use Rattle.link_index.proofs.laws.firsts_are_replaced.Goals as goal

pub returns : goal.returns
returns c = λ own first second firsts pairs. has_own own first second firsts pairs

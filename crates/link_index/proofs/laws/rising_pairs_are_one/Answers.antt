-- What is there tells pairs that rise.
use Rattle.link_index.proofs.LawLemmas.{rising_one}
use Rattle.link_index.proofs.laws.rising_pairs_are_one.Goals as goal

pub returns : goal.returns
returns c = λ some others rise rises same. rising_one some others rise rises same

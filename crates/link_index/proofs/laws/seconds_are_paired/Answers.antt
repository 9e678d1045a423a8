-- The seconds of a first number are its pairs'.
use Rattle.link_index.proofs.LawLemmas.{has_second}
use Rattle.link_index.proofs.laws.seconds_are_paired.Goals as goal

pub returns : goal.returns
returns c = λ first second pairs. has_second first second pairs

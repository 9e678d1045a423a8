use Rattle.journal.proofs.ReadingLemmas.{Recovers-once}
use Rattle.journal.proofs.laws.recovers_once.Goals as goal

pub returns : goal.returns
returns c = Recovers-once c.args.k

use Rattle.entry_log.proofs.ReadingLemmas.{RecoversTo-once}
use Rattle.entry_log.proofs.laws.recovers_once.Goals as goal

pub returns : goal.returns
returns c = RecoversTo-once

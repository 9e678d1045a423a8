use Rattle.entry_log.proofs.ReadingLemmas.{RecoversTo-sound}
use Rattle.entry_log.proofs.laws.recovers_soundly.Goals as goal

pub returns : goal.returns
returns c = RecoversTo-sound

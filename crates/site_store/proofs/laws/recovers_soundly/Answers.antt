use Rattle.site_store.proofs.SoundLemmas.{Recovers-sound}
use Rattle.site_store.proofs.laws.recovers_soundly.Goals as goal

pub returns : goal.returns
returns c = Recovers-sound

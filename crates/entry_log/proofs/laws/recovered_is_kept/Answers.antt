use Rattle.entry_log.proofs.EntryLemmas.{Keeps-recovered}
use Rattle.entry_log.proofs.laws.recovered_is_kept.Goals as goal

pub returns : goal.returns
returns c = Keeps-recovered

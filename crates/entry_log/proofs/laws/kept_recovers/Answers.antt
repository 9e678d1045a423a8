use Rattle.entry_log.proofs.EntryLemmas.{Keeps-recovers}
use Rattle.entry_log.proofs.laws.kept_recovers.Goals as goal

pub returns : goal.returns
returns c = Keeps-recovers

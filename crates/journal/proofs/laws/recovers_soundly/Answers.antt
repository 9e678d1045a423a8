use Rattle.journal.proofs.ReadingLemmas.{Recovers-header, Recovers-sound}
use Rattle.journal.proofs.laws.recovers_soundly.Goals as goal

pub returns-clause-header : goal.returns-clause-header
returns-clause-header c = Recovers-header c.args.k

pub returns-clause-records : goal.returns-clause-records
returns-clause-records c = Recovers-sound c.args.k

-- A new journal holds no entry.
use Rattle.entry_log.proofs.EntryLemmas.{Keeps-fresh}
use Rattle.entry_log.proofs.log.create.Goals as goal

pub returns-in-Ok-clause-keeps : goal.returns-in-Ok-clause-keeps
returns-in-Ok-clause-keeps g c = λ honest.
    Keeps-fresh c.at.result c.in-Ok.journal (g.D.Disk.past c.create.new.disk) c.args.number
    c.at.ensures (c.in-Ok.ensures.holds honest)

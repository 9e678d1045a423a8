-- The page that was cleared has no moment.
use Rattle.time_table.proofs.TableLemmas.{none_without}
use Rattle.time_table.proofs.table.TimeTable.set.Goals as goal

pub add-requires-clause-absent : goal.add-requires-clause-absent
add-requires-clause-absent c =
    rw (c.clear.ensures.entries) (none_without c.args.page c.args.self.now.entries)

-- A text that writes an existing civil second is that of its moment.
use Rattle.time_table.proofs.WrittenLemmas.{time_text_read}
use Rattle.time_table.proofs.text.read_time.Goals as goal

pub returns-clause-some : goal.returns-clause-some
returns-clause-some c =
    time_text_read c.moment_at.result c.args.text.now _ c.moment_at.ensures c.in-Some.ensures.some.1

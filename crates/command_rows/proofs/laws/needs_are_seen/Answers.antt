-- Each command has the needs of its kind.
use Rattle.command_rows.proofs.NeedLemmas.{needs_seen}
use Rattle.command_rows.proofs.laws.needs_are_seen.Goals as goal

pub returns : goal.returns
returns c = needs_seen

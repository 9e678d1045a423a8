-- The law holds of each list of pairs.
use Rattle.time_table.proofs.TableLemmas.{found_without}
use Rattle.time_table.proofs.laws.moment_is_cleared.Goals as goal

pub returns : goal.returns
returns c = found_without

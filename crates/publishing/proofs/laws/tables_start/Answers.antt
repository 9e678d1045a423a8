-- The law holds of any tables without moments.
use Rattle.publishing.proofs.LawLemmas.{tables_start}
use Rattle.publishing.proofs.laws.tables_start.Goals as goal

pub returns : goal.returns
returns c = tables_start

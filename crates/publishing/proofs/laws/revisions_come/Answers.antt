-- The law holds of any tables.
use Rattle.publishing.proofs.LawLemmas.{revisions_come}
use Rattle.publishing.proofs.laws.revisions_come.Goals as goal

pub returns : goal.returns
returns c = revisions_come

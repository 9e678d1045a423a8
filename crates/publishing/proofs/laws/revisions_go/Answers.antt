-- The law holds of any tables.
use Rattle.publishing.proofs.LawLemmas.{revisions_go}
use Rattle.publishing.proofs.laws.revisions_go.Goals as goal

pub returns : goal.returns
returns c = revisions_go

-- The law holds of any tables.
use Rattle.publishing.proofs.LawLemmas.{page_comes}
use Rattle.publishing.proofs.laws.page_comes.Goals as goal

pub returns : goal.returns
returns c = page_comes

-- The revisions are the same.
use Rattle.part_commits.proofs.InStepLemmas.{nothing_stays}
use Rattle.part_commits.proofs.laws.nothing_stays.Goals as goal

pub returns : goal.returns
returns c = nothing_stays

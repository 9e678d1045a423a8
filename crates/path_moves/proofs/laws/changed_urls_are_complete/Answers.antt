-- The URLs that change, with those from before, are all of the later ones.
use Rattle.path_moves.proofs.ApplyChanges.{distinct_complete}
use Rattle.path_moves.proofs.laws.changed_urls_are_complete.Goals as goal

pub returns : goal.returns
returns c = distinct_complete

-- The law holds of each tree of pages.
use Rattle.path_moves.proofs.LawLemmas.{relabelled_is}
use Rattle.path_moves.proofs.laws.rows_are_relabelled.Goals as goal

pub returns : goal.returns
returns c = relabelled_is

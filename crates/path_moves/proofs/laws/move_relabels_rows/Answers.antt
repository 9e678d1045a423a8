-- The law holds of each tree of pages.
use Rattle.path_moves.proofs.LawLemmas.{move_is}
use Rattle.path_moves.proofs.laws.move_relabels_rows.Goals as goal

pub returns : goal.returns
returns c = move_is

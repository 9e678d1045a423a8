-- The law holds of each tree of pages.
use Rattle.path_moves.proofs.LawLemmas.{cut_is}
use Rattle.path_moves.proofs.laws.cut_takes_rows_out.Goals as goal

pub returns : goal.returns
returns c = cut_is

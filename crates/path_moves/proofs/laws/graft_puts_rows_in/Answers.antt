-- The law holds of each tree of pages.
use Rattle.path_moves.proofs.LawLemmas.{graft_is}
use Rattle.path_moves.proofs.laws.graft_puts_rows_in.Goals as goal

pub returns : goal.returns
returns c = graft_is

-- The rows of a tree with distinct ids tell the walks.
use Rattle.page_tree.proofs.RowWalkLemmas.{rows_of-walk}
use Rattle.page_tree.proofs.laws.rows_tell_walks.Goals as goal

pub returns : goal.returns
returns c = rows_of-walk

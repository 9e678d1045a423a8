-- The new row comes last.
use Rattle.page_tree.proofs.RootLemmas.{rows_of-append}
use Rattle.page_tree.proofs.laws.append_adds_row.Goals as goal

pub returns : goal.returns
returns c = rows_of-append

-- The rows of a whole tree are those below no page.
use Rattle.std.proofs.Common.{[], None}
use Rattle.page_tree.proofs.RowLemmas.{has_page-rows}
use Rattle.page_tree.proofs.laws.pages_have_rows.Goals as goal

pub returns : goal.returns
returns c = λ id tree. has_page-rows id None [] [] tree

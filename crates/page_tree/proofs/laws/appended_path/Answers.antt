-- The walk to the new page is the root and that page.
use Rattle.page_tree.proofs.WalkLemmas.{path_of-append}
use Rattle.page_tree.proofs.laws.appended_path.Goals as goal

pub returns : goal.returns
returns c = path_of-append

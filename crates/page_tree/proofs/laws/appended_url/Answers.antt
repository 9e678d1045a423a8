-- The walk to the new page is the root and that page.
use Rattle.page_tree.proofs.WalkLemmas.{url_of-append}
use Rattle.page_tree.proofs.laws.appended_url.Goals as goal

pub returns : goal.returns
returns c = url_of-append

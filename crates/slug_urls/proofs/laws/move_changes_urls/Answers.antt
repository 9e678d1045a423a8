-- The law holds of each tree.
use Rattle.slug_urls.proofs.LawLemmas.{move_is}
use Rattle.slug_urls.proofs.laws.move_changes_urls.Goals as goal

pub returns : goal.returns
returns c tree page parent place distinct = move_is tree distinct page parent place

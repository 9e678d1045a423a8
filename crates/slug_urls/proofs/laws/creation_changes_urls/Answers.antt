-- The law holds of each tree.
use Rattle.slug_urls.proofs.LawLemmas.{creation_is}
use Rattle.slug_urls.proofs.laws.creation_changes_urls.Goals as goal

pub returns : goal.returns
returns c tree page parent step slug body distinct = creation_is tree distinct page parent step
    slug body

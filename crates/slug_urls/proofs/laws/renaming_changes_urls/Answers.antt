-- The law holds of each tree.
use Rattle.slug_urls.proofs.LawLemmas.{renaming_is}
use Rattle.slug_urls.proofs.laws.renaming_changes_urls.Goals as goal

pub returns : goal.returns
returns c tree page slug distinct = renaming_is tree distinct page slug

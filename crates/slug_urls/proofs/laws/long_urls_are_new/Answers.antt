-- The law holds of any two trees.
use Rattle.slug_urls.proofs.LawLemmas.{long_is_new}
use Rattle.slug_urls.proofs.laws.long_urls_are_new.Goals as goal

pub returns : goal.returns
returns c = long_is_new

-- The row that is found at the URL is live, and its id is its own.
use Rattle.sight_model.proofs.LiveLemmas.{only_live_pages_are_public}
use Rattle.sight_model.proofs.laws.only_live_pages_are_public.Goals as goal

pub returns : goal.returns
returns c = only_live_pages_are_public

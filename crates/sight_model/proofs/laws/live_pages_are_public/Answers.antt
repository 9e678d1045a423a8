-- Some live row is found at the URL, and its id has a card.
use Rattle.sight_model.proofs.LiveLemmas.{live_pages_are_public}
use Rattle.sight_model.proofs.laws.live_pages_are_public.Goals as goal

pub returns : goal.returns
returns c = live_pages_are_public

-- The one on the page is the user's.
use Rattle.desks.proofs.DeskLemmas.{own_goes}
use Rattle.desks.proofs.laws.own_goes_alone.Goals as goal

pub returns : goal.returns
returns c = own_goes

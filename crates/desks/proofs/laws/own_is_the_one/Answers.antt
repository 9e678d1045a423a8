-- None after the first one on the page is the user's.
use Rattle.desks.proofs.DeskLemmas.{own_is}
use Rattle.desks.proofs.laws.own_is_the_one.Goals as goal

pub returns : goal.returns
returns c = own_is

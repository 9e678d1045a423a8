-- None stands after the first one on the page.
use Rattle.desks.proofs.DeskLemmas.{one_desk}
use Rattle.desks.proofs.laws.one_desk_a_page.Goals as goal

pub returns : goal.returns
returns c = one_desk

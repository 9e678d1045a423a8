-- The law holds of any tables.
use Rattle.publishing.proofs.DueLaws.{due_in_world}
use Rattle.publishing.proofs.laws.due_in_world.Goals as goal

pub returns : goal.returns
returns c = due_in_world

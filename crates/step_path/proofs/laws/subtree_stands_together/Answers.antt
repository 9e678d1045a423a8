-- What comes between paths that begin alike begins so too.
use Rattle.step_path.proofs.OrderLemmas.{subtree_together}
use Rattle.step_path.proofs.laws.subtree_stands_together.Goals as goal

pub returns : goal.returns
returns c = subtree_together

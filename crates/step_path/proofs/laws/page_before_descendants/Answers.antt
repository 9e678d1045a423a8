-- A path comes before the longer ones that begin with it.
use Rattle.step_path.proofs.OrderLemmas.{IsBefore-append}
use Rattle.step_path.proofs.laws.page_before_descendants.Goals as goal

pub returns : goal.returns
returns c = IsBefore-append

-- What follows a replaced beginning stays.
use Rattle.step_path.proofs.PathLemmas.{relabelled-append}
use Rattle.step_path.proofs.OrderLemmas.{path_cmp-relabelled}
use Rattle.step_path.proofs.laws.relabel_keeps_rest_and_order.Goals as goal

pub returns : goal.returns
returns c = λ old new a b. (relabelled-append old new a, path_cmp-relabelled old new a b)

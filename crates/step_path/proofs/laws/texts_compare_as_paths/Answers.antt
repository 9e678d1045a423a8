-- Texts compare as paths do.
use Rattle.step_path.proofs.OrderLemmas.{paths_in_order}
use Rattle.step_path.proofs.laws.texts_compare_as_paths.Goals as goal

pub returns : goal.returns
returns c = λ a b p q. paths_in_order a b p.steps q.steps

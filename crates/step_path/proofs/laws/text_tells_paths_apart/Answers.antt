-- Both paths are read back from the one text.
use Rattle.step_path.proofs.PathLemmas.{path_text-injective}
use Rattle.step_path.proofs.laws.text_tells_paths_apart.Goals as goal

pub returns : goal.returns
returns c = λ a b p q is. path_text-injective a b p.steps q.steps is

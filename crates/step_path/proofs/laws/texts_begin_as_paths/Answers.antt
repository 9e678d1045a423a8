-- Texts begin as paths do.
use Rattle.step_path.proofs.PathLemmas.{BeginsWith-from_texts, BeginsWith-texts}
use Rattle.step_path.proofs.laws.texts_begin_as_paths.Goals as goal

pub returns : goal.returns
returns c = λ front whole p q.
    (BeginsWith-from_texts front whole p.steps q.steps, BeginsWith-texts front whole)

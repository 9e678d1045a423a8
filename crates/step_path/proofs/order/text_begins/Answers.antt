-- The characters begin as the steps do.
use Rattle.step_path.proofs.PathLemmas.{BeginsWith-from_test_of_texts}
use Rattle.step_path.proofs.order.text_begins.Goals as goal

pub returns : goal.returns
returns c =
    BeginsWith-from_test_of_texts _ _ _ c.requires.first c.requires.second
    c.starts_with.ensures.value

-- A path is read back from its text.
use Rattle.step_path.proofs.PathLemmas.{IsPathText-path_text, steps_of-path_text}
use Rattle.step_path.proofs.laws.text_reads_back.Goals as goal

pub returns : goal.returns
returns c = λ path is. (IsPathText-path_text path is, steps_of-path_text path is.steps)

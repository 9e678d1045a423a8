-- The four characters are those of the four digits.
use Rattle.std.proofs.Common.{rules}
use Rattle.step_path.specs.Step.{step_text}
use Rattle.step_path.proofs.step.Step.text.Goals as goal

pub returns : goal.returns
unfolding step_text
returns c = search rules

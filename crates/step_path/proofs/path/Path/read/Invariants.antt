-- The steps so far are steps, one for each block of four characters, and their text is the text so
-- far.
use Rattle.std.proofs.Common.{◌≡◌, ◌*◌, take, length}
use Rattle.step_path.specs.Path.{AreSteps, path_text}
use Rattle.step_path.proofs.path.Path.read.Given as goal

abbrev pub invariant-loop-place : goal.invariant-loop-place
invariant-loop-place l = record {
  count : length l.steps.items ≡ l.place;
  steps : AreSteps l.steps.items;
  joins : path_text l.steps.items ≡ take (4 * l.place) l.text;
}

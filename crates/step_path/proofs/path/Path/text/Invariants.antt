-- The text so far is that of the steps so far.
use Rattle.std.proofs.Common.{◌≡◌, take}
use Rattle.step_path.specs.Path.{path_text}
use Rattle.step_path.proofs.path.Path.text.Given as goal

abbrev pub invariant-loop-number : goal.invariant-loop-number
invariant-loop-number l = l.text.items ≡ path_text (take l.number-index l.numbers)

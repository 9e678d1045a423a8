-- The numbers that are left rise above the last one exactly where all rise.
use Rattle.std.proofs.Common.{◌≡◌, drop}
use Rattle.entry_codec.specs.Lists.{rise_above}
use Rattle.entry_codec.proofs.lists.rise.Given as goal

abbrev pub invariant-loop-number : goal.invariant-loop-number
invariant-loop-number l = rise_above l.low (drop l.number-index l.numbers) ≡ rise_above 0 l.numbers

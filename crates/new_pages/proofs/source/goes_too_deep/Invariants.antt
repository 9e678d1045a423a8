-- None of the rows so far goes too deep.
use Rattle.std.proofs.Common.{◌≡◌, false, take, drop}
use Rattle.std.specs.List.{list_any}
use Rattle.new_pages.specs.Copying.{is_deep}
use Rattle.new_pages.proofs.source.goes_too_deep.Given as goal

abbrev pub invariant-loop-done : goal.invariant-loop-done
invariant-loop-done l =
    list_any (is_deep l.source l.path) (take l.done (drop l.source.start l.rows.pages)) ≡ false

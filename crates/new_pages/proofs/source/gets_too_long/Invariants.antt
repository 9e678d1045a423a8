-- None of the rows so far gets too long a URL.
use Rattle.std.proofs.Common.{◌≡◌, false, take, drop}
use Rattle.std.specs.List.{list_any}
use Rattle.new_pages.specs.Copying.{is_long}
use Rattle.new_pages.proofs.source.gets_too_long.Given as goal

abbrev pub invariant-loop-done : goal.invariant-loop-done
invariant-loop-done l =
    list_any (is_long l.source l.url) (take l.done (drop l.source.start l.rows.pages)) ≡ false

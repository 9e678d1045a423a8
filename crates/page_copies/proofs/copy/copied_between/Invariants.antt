-- The pages so far, each with the content that its copy gets.
use Rattle.std.proofs.Common.{◌≡◌, map, take, drop}
use Rattle.site_model.specs.World as worlds
use Rattle.page_copies.specs.Contents.{StandFor}
use Rattle.page_copies.specs.Copied.{copied_pair}
use Rattle.page_copies.proofs.copy.copied_between.Given as goal

abbrev pub invariant-loop-done : goal.invariant-loop-done
invariant-loop-done l =
    (part : worlds.TreePart) → StandFor l.rows.pages l.shelf.revisions part →
    l.pages.items ≡ map (copied_pair part) (take l.done (drop l.place l.rows.pages))

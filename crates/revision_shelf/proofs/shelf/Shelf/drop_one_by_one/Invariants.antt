-- What is left to take out of what is left comes to what is to be left.
use Rattle.std.proofs.Common.{◌≡◌, ◌≤◌}
use Rattle.std.specs.Prelude.{drop}
use Rattle.revision_shelf.specs.Shelf.{without_pages}
use Rattle.revision_shelf.proofs.shelf.Shelf.drop_one_by_one.Given as goal

abbrev pub invariant-loop-number : goal.invariant-loop-number
invariant-loop-number l =
    record {
      left : without_pages (drop l.number-index l.pages) l.self.revisions ≡ without_pages l.pages
          l.initial.self.revisions;
      room : l.initial.self.spare ≤ l.self.spare;
    }

-- The other pages' revisions are those that were there.
use Rattle.std.proofs.Common.{◌≡◌, ◌≤◌, length}
use Rattle.revision_shelf.specs.Shelf.{without_page}
use Rattle.revision_shelf.proofs.shelf.Shelf.drop_page.Given as goal

abbrev pub invariant-loop-page : goal.invariant-loop-page
invariant-loop-page l =
    record {
      others : without_page l.page l.self.revisions ≡ without_page l.page l.initial.self.revisions;
      room : l.initial.self.spare ≤ l.self.spare;
    }

abbrev pub decreases-loop-page : goal.decreases-loop-page
decreases-loop-page l = length l.self.revisions

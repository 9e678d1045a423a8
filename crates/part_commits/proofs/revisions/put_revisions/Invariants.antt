-- The revisions that are left, added after those that are, come to all of them.
use Rattle.std.proofs.Common.{◌≡◌, ◌≤◌, ◌++◌, length}
use Rattle.flat_model.specs.Fits.{RevisionsFit}
use Rattle.part_commits.proofs.revisions.put_revisions.Given as goal

abbrev pub invariant-loop-revision : goal.invariant-loop-revision
invariant-loop-revision l =
    record {
      all : l.shelf.revisions ++ l.revision-iterator.rest.items
          ≡ l.initial.shelf.revisions ++ l.initial.revision-iterator.rest.items;
      fits : RevisionsFit l.revision-iterator.rest.items l.shelf.revisions;
      room : length l.revision-iterator.rest.items ≤ l.shelf.spare;
    }

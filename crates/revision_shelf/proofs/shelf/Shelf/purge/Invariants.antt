-- All of the page's revisions from the last one kept on stay, and those that went are counted.
use Rattle.std.proofs.Common.{◌≤◌, length}
use Rattle.revision_shelf.specs.Kept.{before_in}
use Rattle.revision_shelf.specs.Purge.{named}
use Rattle.revision_shelf.proofs.PurgeLemmas.{IsPurging}
use Rattle.revision_shelf.proofs.shelf.Shelf.purge.Given as goal

abbrev pub invariant-back : goal.invariant-back
invariant-back l =
    record {
      purging : IsPurging l.page l.keep l.initial.self.revisions l.after l.gone l.self.revisions;
      room : l.initial.self.spare ≤ l.self.spare;
      few : length l.initial.self.revisions ≤ 4_000_000_000;
    }

abbrev pub decreases-back : goal.decreases-back
decreases-back l = length (before_in (named l.after) l.self.revisions)

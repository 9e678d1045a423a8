-- What is left to take out of what is left comes to what is to be left.
use Rattle.std.proofs.Common.{◌≡◌, ◌≤◌, List}
use Rattle.std.specs.Prelude.{drop}
use Rattle.indexmap.specs.IndexMap.{spare}
use Rattle.site_types.specs.declared.revision.Revision.{Revision}
use Rattle.revision_shelf.specs.Shelf.{without_pages}
use Rattle.revision_shelf.specs.Kept.{IsChained}
use Rattle.revision_shelf.proofs.chain.take_pages.Given as goal

abbrev pub invariant-loop-number : goal.invariant-loop-number
invariant-loop-number l =
    record {
      chained : (revisions : List Revision) → IsChained l.initial.stored.entries
          l.initial.newest.entries l.initial.weight revisions → (rest : List Revision) × IsChained
          l.stored.entries l.newest.entries l.weight rest × (without_pages (drop l.number-index l.pages)
          rest ≡ without_pages l.pages revisions);
      room_stored : spare l.initial.stored ≤ spare l.stored;
      room_newest : spare l.initial.newest ≤ spare l.newest;
    }

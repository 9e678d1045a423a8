-- The other pages' revisions are those that were there.
use Rattle.std.proofs.Common.{◌≡◌, ◌≤◌, List}
use Rattle.indexmap.specs.IndexMap.{spare, index_map_len}
use Rattle.site_types.specs.declared.revision.Revision.{Revision}
use Rattle.revision_shelf.specs.Shelf.{without_page}
use Rattle.revision_shelf.specs.Kept.{IsChained}
use Rattle.revision_shelf.proofs.chain.take_chain.Given as goal

abbrev pub invariant-loop-page : goal.invariant-loop-page
invariant-loop-page l =
    record {
      chained : (revisions : List Revision) → IsChained l.initial.stored.entries
          l.initial.newest.entries l.initial.weight revisions → (rest : List Revision) × IsChained
          l.stored.entries l.newest.entries l.weight rest × (without_page l.page rest ≡ without_page
          l.page revisions);
      room_stored : spare l.initial.stored ≤ spare l.stored;
      room_newest : spare l.initial.newest ≤ spare l.newest;
    }

abbrev pub decreases-loop-page : goal.decreases-loop-page
decreases-loop-page l = index_map_len l.stored

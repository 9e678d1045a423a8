-- The aliases so far.
use Rattle.std.proofs.Common.{◌≡◌, take}
use Rattle.site_model.specs.Delete.{detached_revisions}
use Rattle.site_model.specs.World as worlds
use Rattle.site_part.specs.Standing.{IsReady}
use Rattle.std.specs.List.{AllByRecursion}
use Rattle.tree_edits.specs.Leaving.{IsAliasHere, detached_pairs}
use Rattle.tree_edits.proofs.leaving.all_detached.Given as goal

abbrev pub invariant-loop-done : goal.invariant-loop-done
invariant-loop-done l =
    (world : worlds.TreePart) → IsReady l.part world →
    AllByRecursion (IsAliasHere world.tree) l.aliases →
    (l.bodies.items
    ≡ detached_pairs world l.time world.next_revision (take l.done l.aliases))
    × (l.revisions.items
    ≡ detached_revisions world l.time l.caller world.next_revision (take l.done l.aliases))

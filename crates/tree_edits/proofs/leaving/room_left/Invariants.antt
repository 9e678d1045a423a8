-- The room with the contents that stay of those so far is the most that all may take.
use Rattle.std.proofs.Common.{◌≡◌, ◌+◌, not, take, filter}
use Rattle.page_tree.specs.Tree.{has_page, node_of}
use Rattle.site_model.specs.Limits.{MAX_CONTENTS, contents_length}
use Rattle.site_model.specs.World as worlds
use Rattle.site_part.specs.Standing.{IsReady}
use Rattle.tree_edits.proofs.leaving.room_left.Given as goal

abbrev pub invariant-loop-place : goal.invariant-loop-place
invariant-loop-place l =
    (world : worlds.TreePart) → IsReady l.part world →
    l.room
    + contents_length (filter (λ revision. not (has_page revision.page (node_of l.page world.tree)))
    (take l.place l.part.shelf.revisions))
    ≡ MAX_CONTENTS

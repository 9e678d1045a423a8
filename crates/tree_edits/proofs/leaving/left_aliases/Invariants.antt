-- What was found, and then what is found of the pages that are left, is what is found of all.
use Rattle.std.proofs.Common.{◌≡◌, ◌≤◌, ◌++◌, drop}
use Rattle.page_tree.specs.Tree.{node_of}
use Rattle.link_index.specs.Pairs.{PairsRise}
use Rattle.site_model.specs.World as worlds
use Rattle.site_part.specs.Standing.{IsReady}
use Rattle.tree_edits.proofs.LeavingFound.{found}
use Rattle.tree_edits.proofs.leaving.left_aliases.Given as goal

abbrev pub invariant-loop-number : goal.invariant-loop-number
invariant-loop-number l =
    ((world : worlds.TreePart) → IsReady l.part world →
    l.left.items
    ++ found (node_of l.page world.tree) l.part.aliases.pairs (drop l.number-index l.number-items)
    ≡ found (node_of l.page world.tree) l.part.aliases.pairs l.number-items)
    × (1 ≤ l.number-index → PairsRise l.part.aliases.pairs)

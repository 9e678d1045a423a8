-- What was put, and then the aliases that stay of those that are left, is what stays of all.
use Rattle.std.proofs.Common.{◌≡◌, ◌++◌, drop}
use Rattle.page_tree.specs.Tree.{Forest, node_of}
use Rattle.page_tree.specs.Rows.{rows_of}
use Rattle.site_types.specs.declared.body.Body.{Body}
use Rattle.tree_edits.specs.Leaving.{staying}
use Rattle.tree_edits.proofs.leaving.put_staying.Given as goal

abbrev pub invariant-loop-number : goal.invariant-loop-number
invariant-loop-number l =
    (tree : Forest Body) → l.part.rows.pages ≡ rows_of tree →
    l.left.items ++ staying (node_of l.page tree) (drop l.number-index l.number-items)
    ≡ l.fn.left.items ++ staying (node_of l.page tree) l.number-items
